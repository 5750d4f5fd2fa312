-- A std writer as a sink.
use Rattle.std.specs.Prelude.{ℕ}
use Rattle.gv_outside.specs.declared.std_sink.StdSink.{StdSink}

-- the writer that it writes
abbrev pub writer_of : {W : Type 0} → StdSink W → W
writer_of s = s.inner

-- how often it has failed
abbrev pub faults_of : {W : Type 0} → StdSink W → ℕ
faults_of s = s.faults
