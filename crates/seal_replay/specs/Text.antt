-- The text of a replay's stop. Its numbers are decimal.
use Rattle.std.specs.Prelude.{ℕ, List, [], ◌++◌, codes, decimal}
use Rattle.rv_isa.specs.Text.{fault_text}
use Rattle.seal_replay.specs.declared.stop.ReplayStop.{ReplayStop}
use Rattle.seal_replay.specs.declared.stop.ReplayStop.TheVariants.{Unopened, Fault as Faults, WordsShort, EndsEarly, WordsLeft, Idle, Memory}

-- why a seal's replay stops; want of memory is no refusal and has no text
abbrev pub replay_text : ReplayStop → List ℕ
replay_text (Unopened step page) = codes "unopened " ++ decimal step ++ codes " " ++ decimal page
replay_text (Faults step fault) = codes "fault " ++ decimal step ++ codes " " ++ fault_text fault
replay_text (WordsShort step) = codes "words-short " ++ decimal step
replay_text (EndsEarly step) = codes "ends-early " ++ decimal step
replay_text (WordsLeft count) = codes "words-left " ++ decimal count
replay_text (Idle page) = codes "idle " ++ decimal page
replay_text Memory = []
