use Rattle.std.proofs.Common.{subst, sym}
use Rattle.zk_rows.proofs.Limits.{IsFew, read_call_few}
use Rattle.zk_rows.proofs.calls.add_call.Goals as goal

-- src/calls.rt:24:24
pub cost-cost-requires : goal.cost-cost-requires
cost-cost-requires c =
    let few : IsFew c.read_call.result = subst IsFew (sym c.read_call.ensures) (read_call_few _) in subst IsFew c.in-Ok.is few
