use Rattle.std.proofs.Common.{◌≡◌, ◌≤◌, length, drop}
use Rattle.digest_core.specs.Tagged.{list_digest}
use Rattle.digest_core.proofs.tags.tagged_list.Given as goal

abbrev pub invariant-loop-at : goal.invariant-loop-at
invariant-loop-at g l = record {
  low : l.at ≤ length l.items;
  so_far : l.list ≡ list_digest g.D.Digester.digest_of l.tag (drop l.at l.items);
}

abbrev pub decreases-loop-at : goal.decreases-loop-at
decreases-loop-at g l = l.at
