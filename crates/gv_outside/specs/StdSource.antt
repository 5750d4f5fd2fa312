-- A std reader as a source.
use Rattle.std.specs.Prelude.{ℕ}
use Rattle.gv_outside.specs.declared.std_source.StdSource.{StdSource}

-- the reader that it reads
abbrev pub reader_of : {R : Type 0} → StdSource R → R
reader_of s = s.inner

-- how often it has failed
abbrev pub faults_of : {R : Type 0} → StdSource R → ℕ
faults_of s = s.faults
