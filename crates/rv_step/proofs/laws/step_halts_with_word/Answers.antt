use Rattle.rv_step.proofs.Kept.{step_halts_with_word}
use Rattle.rv_step.proofs.laws.step_halts_with_word.Goals as goal

pub returns : goal.returns
returns c = step_halts_with_word
