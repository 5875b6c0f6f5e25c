-- What a run has beside its memory: its input words, and what it has said so far.
use Rattle.std.specs.Prelude.{ℕ, List, []}
use Rattle.host_calls.specs.declared.call.AssumeCall.{AssumeCall}

-- input words, and how many of them were taken
pub record Tape : Type 0 where
  pub words : List ℕ
  pub used : ℕ

-- the bytes of the journal, and the assumptions in the order of their calls
pub record Log : Type 0 where
  pub journal : List ℕ
  pub calls : List AssumeCall

-- nothing was said
abbrev pub no_log : Log
no_log = record { journal = []; calls = [] }
