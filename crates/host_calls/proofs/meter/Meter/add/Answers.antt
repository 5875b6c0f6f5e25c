use Rattle.std.proofs.Common.{sym, subst, IsTrue, arith}
use Rattle.std.proofs.lemmas.Bool.Decides.{nat_tests}
use Rattle.host_calls.specs.Meters.{Meter, has_room}
use Rattle.page_core.proofs.Ascending.{ascending-ascending}
use Rattle.host_calls.proofs.meter.Meter.add.Goals as goal

pub invariant_of-self-2 : goal.invariant_of-self-2
invariant_of-self-2 c =
    let fits = subst (λ (m : Meter). IsTrue (has_room c.args.foot.now c.args.cost m.segment)) (sym c.self.view_is) c.requires in
    rw (c.put_all.ensures, c.pages.ensures.value, c.in_ok-reserve.ensures.items) (ascending-ascending _, grind (arith, nat_tests, fits))
