use Rattle.std.specs.Prelude.{ℕ, ◌-◌, List, [], ◌++◌, length}
use Rattle.outside.specs.Faults.{next_count}
use Rattle.outside.specs.NamedFile.{NamedFile, with_bytes}

-- a desk in memory: its files, the numbers of the calls that fail, how many calls there were, and
-- how many reads and writes failed
pub record DeskState : Type 0 where
  pub files : List NamedFile
  pub fails : List ℕ
  pub calls : ℕ
  pub read_faults : ℕ
  pub write_faults : ℕ

-- a sink in memory: what it took, how many more bytes it takes, the numbers of the calls that
-- fail, how many calls there were, and how many failed
pub record SinkState : Type 0 where
  pub taken : List ℕ
  pub room : ℕ
  pub fails : List ℕ
  pub calls : ℕ
  pub faults : ℕ

-- a desk before its first call
abbrev pub fresh_desk : List NamedFile → List ℕ → DeskState
fresh_desk files fails = record { files = files; fails = fails; calls = 0; read_faults = 0; write_faults = 0 }

-- a desk after a read that did not fail
abbrev pub after_read : DeskState → DeskState
after_read desk = record desk { calls = next_count desk.calls }

-- a desk after a read that failed
abbrev pub after_failed_read : DeskState → DeskState
after_failed_read desk = record desk { calls = next_count desk.calls; read_faults = next_count desk.read_faults }

-- a desk after a write that did not fail
abbrev pub after_write : List ℕ → List ℕ → DeskState → DeskState
after_write name bytes desk = record desk { files = with_bytes name bytes desk.files; calls = next_count desk.calls }

-- a desk after a write that failed
abbrev pub after_failed_write : DeskState → DeskState
after_failed_write desk = record desk { calls = next_count desk.calls; write_faults = next_count desk.write_faults }

-- a sink before its first call
abbrev pub fresh_sink : ℕ → List ℕ → SinkState
fresh_sink room fails = record { taken = []; room = room; fails = fails; calls = 0; faults = 0 }

-- a sink after a put that did not fail
abbrev pub after_put : List ℕ → SinkState → SinkState
after_put bytes sink =
    record sink { taken = sink.taken ++ bytes; room = sink.room - length bytes; calls = next_count sink.calls }

-- a sink after a put that failed
abbrev pub after_failed_put : SinkState → SinkState
after_failed_put sink = record sink { calls = next_count sink.calls; faults = next_count sink.faults }
