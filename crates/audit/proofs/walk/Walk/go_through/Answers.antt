use Rattle.std.proofs.Common.{◌≡◌, ℕ, List, sym, ap, ◌∙◌, subst, arith}
use Rattle.std.specs.Prelude.{Contains}
use Rattle.part_tree.specs.Part.{open_numbers}
use Rattle.page_tree.specs.Grown.{AscendFrom}
use Rattle.receipt_types.specs.Seals.{Seal}
use Rattle.audit.proofs.Opened.{opened_ascend}
use Rattle.audit.proofs.Gone.{on, all_done, others}
use Rattle.audit.proofs.walk.Walk.go_through.Goals as goal

pub following_tree-requires-clause-ascending : goal.following_tree-requires-clause-ascending
following_tree-requires-clause-ascending g c κs within =
    let opened : c.as_slice.result.now ≡ open_numbers 0 c.args.seal.now.tree =
    c.as_slice.ensures ∙ c.in_ok-touched.ensures ∙ ap (λ (s : Seal). open_numbers 0 s.tree) c.seal.view_is in
    subst (λ (ps : List ℕ). AscendFrom 0 ps) (sym opened) (opened_ascend c.args.seal.now.tree c.requires.canonical.shape)

pub following_tree-requires-clause-others : goal.following_tree-requires-clause-others
following_tree-requires-clause-others g c κs within page low away =
    let opened : c.as_slice.result.now ≡ open_numbers 0 c.args.seal.now.tree =
    c.as_slice.ensures ∙ c.in_ok-touched.ensures ∙ ap (λ (s : Seal). open_numbers 0 s.tree) c.seal.view_is in
    others c.args.self.now.flat c.go.new.self c.args.self.now.tree c.args.seal.now c.from.result c.in_ok-go.field-0 c.requires.goes (c.from.ensures ∙ ap (λ (s : Seal). s.steps) c.seal.view_is)
    c.go.ensures.stands c.in_ok-go.ensures.done c.go.ensures.bound c.in_ok-go.ensures.most c.go.ensures.halted page low
    (subst (λ (ps : List ℕ). ¬ Contains ps page) opened away)

pub returns : goal.returns
returns g c =
    let asked : c.from.result ≡ c.args.seal.now.steps = c.from.ensures ∙ ap (λ (s : Seal). s.steps) c.seal.view_is in
    let all : c.in_ok-go.field-0 ≡ c.from.result =
    all_done c.args.self.now.flat c.go.new.self c.args.self.now.tree c.args.seal.now c.from.result c.in_ok-go.field-0 c.requires.goes asked
    c.go.ensures.stands c.in_ok-go.ensures.done c.go.ensures.bound c.in_ok-go.ensures.most c.go.ensures.halted in
    record {
      steps = omega (arith, c.in_ok-go.ensures.done, all, asked);
      on = on c.args.self.now.flat c.go.new.self c.args.self.now.tree c.args.seal.now c.from.result c.in_ok-go.field-0 c.requires.goes asked
          c.go.ensures.stands c.in_ok-go.ensures.done c.go.ensures.bound c.in_ok-go.ensures.most c.go.ensures.halted;
      run = c.go.ensures.stands;
      memory = c.in_ok-self.ensures;
    }
