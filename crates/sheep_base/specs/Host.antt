-- What contracts see of the sources and sinks over std's readers and writers.
use Rattle.std.specs.Prelude.{ℕ}
use Rattle.sheep_base.specs.declared.host.HostSink.{HostSink}
use Rattle.sheep_base.specs.declared.host.HostSource.{HostSource}

-- the reader that a source reads
abbrev pub reader_of_source : {R : Type 0} → HostSource R → R
reader_of_source source = source.inner

-- how often its reader failed
abbrev pub read_faults : {R : Type 0} → HostSource R → ℕ
read_faults source = source.faults

-- the writer that a sink writes
abbrev pub writer_of_sink : {W : Type 0} → HostSink W → W
writer_of_sink sink = sink.inner

-- how often its writer failed
abbrev pub write_faults : {W : Type 0} → HostSink W → ℕ
write_faults sink = sink.faults
