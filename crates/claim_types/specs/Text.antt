-- The text of a state.
use Rattle.std.specs.Prelude.{ℕ, List, ◌++◌, codes}
use Rattle.rv_isa.specs.Text.{hex_word}
use Rattle.digest_core.specs.Text.{digest_text}
use Rattle.claim_types.specs.declared.state.State.{State as SystemState}

-- its pc, a colon and its root
abbrev pub state_text : SystemState → List ℕ
state_text state = hex_word state.pc ++ codes ":" ++ digest_text state.root
