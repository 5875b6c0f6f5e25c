use Rattle.std.proofs.Common.{List, ℕ, ap, ◌∙◌}
use Rattle.page_core.specs.Stored.{Stored, stored_pages}
use Rattle.part_tree.specs.Tree.{root}
use Rattle.elf_image.proofs.Rooted.{image_root}
use Rattle.audit.proofs.auditing.first_state.Goals as goal

pub returns : goal.returns
returns g c =
    let H : List ℕ → List ℕ = g.D.Digester.digest_of in
    ap (λ (r : List ℕ). record { pc = c.args.image.now.entry; root = r })
    (c.root.ensures ∙ ap (λ (s : Stored). root H (stored_pages s)) c.requires.tree ∙ image_root H c.args.image.now.map c.requires.stored)
