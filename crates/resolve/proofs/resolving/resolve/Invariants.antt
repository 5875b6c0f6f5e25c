use Rattle.std.proofs.Common.{◌≡◌, ◌∷◌, take}
use Rattle.std.specs.List.{All}
use Rattle.receipt_types.specs.Limits.{KeepsLimits}
use Rattle.check_core.specs.Checked.{IsAccepted}
use Rattle.resolve.specs.Resolving.{bundles_of}
use Rattle.resolve.proofs.Placed.{placed_of}
use Rattle.resolve.proofs.resolving.resolve.Given as goal

abbrev pub invariant-loop-other : goal.invariant-loop-other
invariant-loop-other g l =
    (l.entries.items ≡ record { links = l.links.items; seals = l.joined.seals } ∷ placed_of l.others l.other-index)
    × (All (λ other. IsAccepted g.D.Digester.digest_of other) (bundles_of (take l.other-index l.others)))
    × (All (λ other. KeepsLimits other) (bundles_of (take l.other-index l.others)))
