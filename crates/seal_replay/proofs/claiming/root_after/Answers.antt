use Rattle.std.proofs.Common.{ap, ◌∙◌}
use Rattle.page_core.specs.Memories.{flat, page_of}
use Rattle.part_tree.specs.Part.{root_of, open_numbers}
use Rattle.part_tree.specs.Views.{part}
use Rattle.rv_step.specs.Machine.{full_of}
use Rattle.rv_step.specs.Opened.{pages_in}
use Rattle.page_core.proofs.Listed.{is_among-from_Contains}
use Rattle.part_tree.proofs.Shown.{put_same}
use Rattle.seal_replay.proofs.claiming.root_after.Goals as goal

pub returns : goal.returns
returns g c =
    c.node_after.ensures
    ∙ ap (root_of g.D.Digester.digest_of)
    (put_same 0 (part c.args.tree.now) (page_of (flat (pages_in c.write_registers.new.pages))) (page_of (full_of (flat (pages_in c.args.pages)) c.args.regs.now))
    (λ p h. c.write_registers.ensures.bytes p (c.requires.«open» p ∙ is_among-from_Contains (open_numbers 0 (part c.args.tree.now)) p h)))
