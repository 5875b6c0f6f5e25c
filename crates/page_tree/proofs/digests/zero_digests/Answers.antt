use Rattle.std.proofs.Common.{inl, inr, ◌<◌, ◌*◌, ◌^◌, ◌-◌, [], ap, sym, ◌∙◌, get_or, arith}
use Rattle.std.proofs.Math.ListN.{set, length-set}
use Rattle.std.proofs.lemmas.Bool.Decides.{eqb_tells}
use Rattle.std.proofs.lemmas.List.{get_or-set_same, get_or-set_other}
use Rattle.page_tree.specs.Blocks.{place_of}
use Rattle.page_tree.proofs.Places.{few_nodes, before_lower}
use Rattle.page_tree.proofs.digests.zero_digests.Goals as goal

pub loop-at-preserved : goal.loop-at-preserved
loop-at-preserved g c =
    let digests = c.loop-at.digests in
    let at = c.loop-at.at in
    let digest = c.at-digest.result in
    let invariant = c.loop-at.invariant in
    let before : at < 2 * 2 ^ (6 - c.loop-height.height) = omega arith in
    record {
      long = omega (arith, length-set digests at digest);
      known = λ k x lt. get_or-set_other digests at (place_of k x) digest [] (before_lower k c.loop-height.height x at lt (omega arith) before) ∙ invariant.known k x lt;
      here = λ p from lt. elim (eqb_tells at p) [
        | inl same ↦ ap (λ q. get_or (set digests at digest) q []) (sym same.1) ∙ get_or-set_same digests at digest [] (omega (arith, few_nodes c.loop-height.height))
        | inr other ↦ get_or-set_other digests at p digest [] (λ e. other.1 (sym e)) ∙ invariant.here p from (omega (arith, lt, other.1))
      ];
    }
