use Rattle.std.proofs.Common.{refl}
use Rattle.flat_machine.proofs.RunSteps.{uncut_same}
use Rattle.flat_machine.proofs.flat.Flat.lift.Goals as goal

pub invariant_of-self : goal.invariant_of-self
invariant_of-self c = uncut_same _ _ refl c.lift_pages.ensures.same_bytes refl refl c.self.invariant

pub invariant_of-self-2 : goal.invariant_of-self-2
invariant_of-self-2 c = uncut_same _ _ refl c.lift_pages.ensures.same_bytes refl refl c.self.invariant
