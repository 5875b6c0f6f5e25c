use Rattle.std.proofs.Common.{List, ℕ, ap, ◌∙◌}
use Rattle.claim_types.specs.States.{state_digest}
use Rattle.page_core.specs.Stored.{Stored, stored_pages}
use Rattle.part_tree.specs.Tree.{root}
use Rattle.elf_image.proofs.Rooted.{image_root}
use Rattle.elf_image.proofs.loader.image_id.Goals as goal

-- the tree's root is that of the image's memory
pub returns : goal.returns
returns g c =
    let H : List ℕ → List ℕ = g.D.Digester.digest_of in
    c.state_digest.ensures
    ∙ ap (λ (r : List ℕ). state_digest H (record { pc = c.args.image.now.entry; root = r }))
    (c.root.ensures ∙ ap (λ (s : Stored). root H (stored_pages s)) c.in_ok-tree.ensures.tree ∙ image_root H c.args.image.now.map c.in_ok-tree.ensures.numbers)
