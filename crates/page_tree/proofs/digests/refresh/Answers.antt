use Rattle.std.proofs.Common.{inl, inr, ℕ, ◌-◌, sym, subst, ◌∙◌, arith}
use Rattle.std.proofs.lemmas.Bool.Decides.{eqb_tells}
use Rattle.page_tree.specs.Blocks.{LevelIs}
use Rattle.page_tree.proofs.Levels.{whole_block}
use Rattle.page_tree.proofs.digests.refresh.Goals as goal

pub loop-height-preserved : goal.loop-height-preserved
loop-height-preserved g c =
    let H = g.D.Digester.digest_of in
    let height = c.loop-height.height in
    let invariant = c.loop-height.invariant in
    let made = c.refresh_height.ensures in
    record {
      some = omega arith;
      long = made.long;
      lower = λ m leaves above k lt. elim (eqb_tells k height) [
        | inl same ↦ subst (λ (j : ℕ). LevelIs H m c.args.base j c.refresh_height.new.digests) (sym same.1)
            (made.level m (invariant.lower m leaves above (height - 1) (omega arith)) (λ x away. invariant.upper height x (omega arith) (omega arith) ∙ above height x (omega arith) (omega arith) away))
        | inr other ↦ λ x. made.others k x (omega arith) other.1 ∙ invariant.lower m leaves above k (omega (arith, lt, other.1)) x
      ];
      upper = λ k x from most. made.others k x most (λ e. omega (arith, e, from)) ∙ invariant.upper k x (omega (arith, from)) most;
      rises = omega arith;
      cost = omega arith;
    }

pub returns-clause-digest : goal.returns-clause-digest
returns-clause-digest g c m are x =
    whole_block g.D.Digester.digest_of m c.args.base x c.loop-height.digests c.node_digest.result _ _ c.loop-height.invariant.long are c.node_digest.ensures.digest
