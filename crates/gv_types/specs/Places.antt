-- Where an access goes, and which addresses there are.
use Rattle.std.specs.Prelude.{ℕ, ◌^◌}
use Rattle.gv_types.specs.declared.event.Place.{Place}
use Rattle.gv_types.specs.declared.event.Place.TheVariants as places

-- One more than the highest address: of memory any address of 64 bits, of the register range 16 MiB, of the aperture
-- 4 GiB.
abbrev pub address_limit : Place → ℕ
address_limit places.Memory = 2 ^ 64
address_limit places.Registers = 0x1000000
address_limit places.Aperture = 2 ^ 32
