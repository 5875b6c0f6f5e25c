use Rattle.rv_step.proofs.Acts.{acts_are_sound}
use Rattle.rv_step.proofs.laws.acts_are_sound.Goals as goal

pub returns : goal.returns
returns c = acts_are_sound
