use Rattle.std.proofs.Common.{◌≡◌, length, drop}
use Rattle.check_core.specs.Judgement.{all_links_stop}
use Rattle.check_core.proofs.linking.test_links.Given as goal

abbrev pub invariant-loop-entry : goal.invariant-loop-entry
invariant-loop-entry g l =
    (l.number ≡ length l.yielded)
    × (all_links_stop g.D.Digester.digest_of l.bundle 0 l.bundle ≡ all_links_stop g.D.Digester.digest_of l.bundle l.number (drop l.number l.bundle))
