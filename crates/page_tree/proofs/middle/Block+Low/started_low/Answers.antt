use Rattle.std.proofs.Common.{◌%◌, ℕ, List, Some, sym, ap, subst, ◌∙◌}
use Rattle.std.specs.Prelude.{IfSome, option_and_then}
use Rattle.std.proofs.lemmas.Result.{IfOk-weaker}
use Rattle.page_core.specs.Pages.{IsPage}
use Rattle.page_tree.specs.Blocks.{page_of_low, IsLow}
use Rattle.page_tree.proofs.Children.{same_block, same_found, zero_block, none_found, ok_three}
use Rattle.page_tree.proofs.middle.Block+Low.started_low.Goals as goal

pub returns-in-Some-clause-block : goal.returns-in-Some-clause-block
returns-in-Some-clause-block g c =
    let H = g.D.Digester.digest_of in
    let old = c.in-Some.low.now in
    let is : IsLow H old = subst (λ o. IfSome o (IsLow H)) (sym c.in-Some.ensures) (c.requires.children (c.args.number % 64)) in
    ok_three c.shared.result _ _ _ _
    (λ block long same kept. same_block H (λ (page : List ℕ) (n : ℕ). Some page) 0 IsPage old.digests block.digests old.children.items block.children.items is kept (long ∙ is.long) same)
    c.shared.ensures.long c.shared.ensures.children c.shared.ensures.digests

pub returns-in-Some-clause-pages : goal.returns-in-Some-clause-pages
returns-in-Some-clause-pages g c =
    let old = c.in-Some.low.now in
    IfOk-weaker c.shared.result _ _
    (λ block same n. same_found g.D.Digester.digest_of (λ (page : List ℕ) (n : ℕ). Some page) 0 old.children.items block.children.items same n ∙ ap (λ o. option_and_then (λ b. page_of_low b n) o) c.in-Some.ensures)
    c.shared.ensures.children

pub returns-in-None-clause-block : goal.returns-in-None-clause-block
returns-in-None-clause-block g c =
    let H = g.D.Digester.digest_of in
    ok_three c.empty.result _ _ _ _
    (λ block long none kept. zero_block H (λ (page : List ℕ) (n : ℕ). Some page) 0 IsPage block.digests block.children.items long none (λ k x most. rw kept (c.zero_digests.ensures k x most)))
    c.empty.ensures.long c.empty.ensures.children c.empty.ensures.digests

pub returns-in-None-clause-pages : goal.returns-in-None-clause-pages
returns-in-None-clause-pages g c =
    IfOk-weaker c.empty.result _ _
    (λ block none n. none_found g.D.Digester.digest_of (λ (page : List ℕ) (n : ℕ). Some page) 0 block.children.items none n ∙ ap (λ o. option_and_then (λ b. page_of_low b n) o) c.in-None.ensures)
    c.empty.ensures.children
