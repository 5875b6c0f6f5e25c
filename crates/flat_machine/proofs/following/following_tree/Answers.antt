use Rattle.std.proofs.Common.{sym, ap₂, ◌∙◌, subst}
use Rattle.std.specs.Prelude.{map}
use Rattle.page_core.specs.Memories.{page_of}
use Rattle.page_core.specs.Stored.{Stored, stored_pages}
use Rattle.page_tree.specs.Grown.{AscendFrom, stored_with_all}
use Rattle.rv_step.specs.Machine.{full}
use Rattle.flat_machine.specs.Going.{flat_state}
use Rattle.flat_machine.proofs.Followed.{all_below, changed_ascend, holds_changed}
use Rattle.flat_machine.proofs.following.following_tree.Goals as goal

pub changed_pages-requires-after_bounds : goal.changed_pages-requires-after_bounds
changed_pages-requires-after_bounds g c κs within = all_below 0 c.args.touched.now c.requires.ascending

pub update-requires-after_bounds : goal.update-requires-after_bounds
update-requires-after_bounds g c κs within =
    subst (λ (ps : Stored). AscendFrom 0 (map (λ p. p.0) ps)) (sym (c.deref.ensures.value ∙ c.in_ok-pages.ensures))
    (changed_ascend (stored_pages c.args.tree.now) (page_of (full (flat_state c.args.flat.now))) 0 c.args.touched.now c.requires.ascending)

pub returns : goal.returns
returns g c =
    holds_changed c.args.tree.now c.update.new.self (flat_state c.args.flat.now) c.args.touched.now c.requires.ascending
    c.requires.others
    (c.in_ok-update.ensures.updated ∙ ap₂ stored_with_all c.in_ok-next.ensures.same (c.deref.ensures.value ∙ c.in_ok-pages.ensures))
