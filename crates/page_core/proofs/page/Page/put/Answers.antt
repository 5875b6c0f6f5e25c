use Rattle.std.proofs.Common.{ℕ, ◌+◌, ◌-◌, List, length, refl, ◌∙◌, arith}
use Rattle.std.proofs.lemmas.List.Edits.{paste_all}
use Rattle.std.proofs.lemmas.Slice.{put_mid-paste}
use Rattle.page_core.proofs.Shown.{patched_is_page}
use Rattle.page_core.proofs.page.Page.put.Goals as goal

pub invariant_of-self : goal.invariant_of-self
invariant_of-self c =
    let bs : List ℕ = c.args.bytes.now in
    let page : List ℕ = c.self.inside.bytes in
    let patched = put_mid-paste c.args.at (c.args.at + length bs - c.args.at) page c.copy_from_slice.new.self bs (length bs) c.copy_from_slice.ensures.after (omega arith) refl
    ∙ paste_all page c.args.at bs (length bs) refl in
    rw patched (patched_is_page page bs c.args.at c.self.invariant c.requires (λ i. omega (arith, c.type_inv.bytes i)))
