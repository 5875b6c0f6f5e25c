use Rattle.std.proofs.Common.{ℕ, List, take, ap₂, ◌∙◌}
use Rattle.std.specs.Int.{w32, to_le_bytes}
use Rattle.std.specs.List.{flat_map}
use Rattle.page_core.specs.Memory.{put}
use Rattle.rv_step.proofs.Done.{reads_to, reads_none}
use Rattle.rv_step.proofs.doing.read.Goals as goal

pub returns-then-count-eq0-clause-went : goal.returns-then-count-eq0-clause-went
returns-then-count-eq0-clause-went g c = λ log.
    reads_none c.args.pointer c.args.count c.args.core.now c.go_on.new.core (g.B.Bus.byte_at c.args.bus.now) c.args.tape.now log c.if-count-eq0.true c.go_on.ensures

pub returns-clause-went : goal.returns-clause-went
returns-clause-went g c = λ log.
    reads_to c.args.pointer c.args.count c.args.core.now c.go_on-2.new.core (g.B.Bus.byte_at c.args.bus.now) (g.B.Bus.byte_at c.store_words.new.bus)
    c.args.tape.now c.skip.new.self log
    (c.store_words.ensures.written
    ∙ ap₂ (λ (m : ℕ → ℕ) (words : List ℕ). put m c.args.pointer (flat_map (to_le_bytes w32) (take c.args.count words))) c.make_range_ready.ensures.same_bytes c.rest.ensures)
    c.skip.ensures c.go_on-2.ensures
