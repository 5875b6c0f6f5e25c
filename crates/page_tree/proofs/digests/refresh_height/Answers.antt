use Rattle.std.proofs.Common.{◌≡◌, ◌-◌, ◌+◌, ◌/◌, ◌^◌, ℕ, [], get_or, sym, ◌∙◌, subst, arith}
use Rattle.std.proofs.Math.ListN.{set, length-set}
use Rattle.page_tree.specs.Blocks.{place_of}
use Rattle.page_tree.specs.Changes.{Untouched}
use Rattle.page_tree.proofs.Levels.{leave_to_next, level_put, other_level}
use Rattle.page_tree.proofs.digests.refresh_height.Goals as goal

-- the next page has the same node
pub loop-page-preserved : goal.loop-page-preserved
loop-page-preserved g c =
    let invariant = c.loop-page.invariant in
    let begins = sym c.shares_node.ensures ∙ c.if-not-shares_node.false in
    record {
      long = invariant.long;
      level = λ m below right x away. invariant.level m below right x
          (subst (Untouched c.args.base c.args.height x) (sym c.in-Some.ensures.cases.0) (leave_to_next c.args.base c.args.height x c.in-Some.page.now c.in-Some.after.now begins away));
      others = invariant.others;
      rises = invariant.rises;
      cost = omega (arith, c.in-Some.ensures.cases.1);
    }

pub loop-page-preserved-then-not-shares_node : goal.loop-page-preserved-then-not-shares_node
loop-page-preserved-then-not-shares_node g c =
    let H = g.D.Digester.digest_of in
    let base = c.args.base in
    let height = c.args.height in
    let page = c.in-Some.page.now in
    let digests = c.loop-page.digests in
    let digest = c.node_digest.result in
    let is = c.place-at.ensures.place in
    let invariant = c.loop-page.invariant in
    record {
      long = omega (arith, length-set digests c.place-at.result digest);
      level = λ m below right.
          level_put H m base height c.place-at.result page c.in-Some.after.now c.loop-page.rest.now digests digest _ _ c.requires.some c.requires.most invariant.long is c.in-Some.ensures.cases.0 c.node_digest.ensures.digest
          (λ x. invariant.others (height - 1) x (omega arith) (omega arith) ∙ below x)
          (invariant.level m below right);
      others = λ k x most ne.
          subst (λ (q : ℕ). get_or (set digests q digest) (place_of k x) [] ≡ get_or digests (place_of k x) []) (sym is)
          (other_level k height x (page.0 / 2 ^ (base + height)) digests digest (omega (arith, most)) (omega arith) ne)
          ∙ invariant.others k x most ne;
      rises = omega arith;
      cost = omega (arith, c.in-Some.ensures.cases.1);
    }
