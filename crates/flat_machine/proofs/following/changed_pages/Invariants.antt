use Rattle.std.proofs.Common.{◌≡◌, take}
use Rattle.page_core.specs.Memories.{page_of}
use Rattle.page_core.specs.Stored.{stored_pages}
use Rattle.rv_step.specs.Machine.{full}
use Rattle.flat_machine.specs.Going.{flat_state}
use Rattle.flat_machine.specs.Following.{changed}
use Rattle.flat_machine.proofs.following.changed_pages.Given as goal

-- those of the pages so far are copied
abbrev pub invariant-loop-page : goal.invariant-loop-page
invariant-loop-page g l = l.list.items ≡ changed (stored_pages l.tree) (page_of (full (flat_state l.flat))) (take l.page-index l.pages)
