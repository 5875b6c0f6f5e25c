use Rattle.std.proofs.Common.{◌≡◌, drop}
use Rattle.resolve.specs.Parts.{place_in}
use Rattle.resolve.proofs.finding.place_of.Given as goal

abbrev pub invariant-loop-place : goal.invariant-loop-place
invariant-loop-place l = place_in l.wanted 0 l.claims ≡ place_in l.wanted l.place (drop l.place l.claims)
