-- The engines: RCS, BCS, VCS and VECS, by their numbers 0 to 3.
use Rattle.std.specs.Prelude.{ℕ, ◌==◌, if◌then◌else◌}

-- where the registers of an engine begin: the offset from which they are counted
abbrev pub register_base : ℕ → ℕ
register_base engine = if engine == 0 then 0x2000 else (if engine == 1 then 0x22000 else (if engine == 2 then 0x12000 else 0x1A000))
