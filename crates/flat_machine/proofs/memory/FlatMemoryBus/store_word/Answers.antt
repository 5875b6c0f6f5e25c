use Rattle.std.proofs.Common.{◌≡◌, ℕ, ◌/◌, Bool, true, ap, ◌∙◌, arith}
use Rattle.std.specs.Int.{w32, to_le_bytes}
use Rattle.std.specs.Prelude.{is_some}
use Rattle.page_core.specs.Memory.{put}
use Rattle.rv_step.specs.Opened.{page_in}
use Rattle.flat_machine.specs.Layers.{Layers, memory_in}
use Rattle.flat_machine.proofs.Layered.{put_above}
use Rattle.flat_machine.proofs.memory.FlatMemoryBus.store_word.Goals as goal

pub returns-clause-same_room : goal.returns-clause-same_room
returns-clause-same_room c =
    let readies : Layers → ℕ → Bool = λ l n. is_some (page_in l.above n) in
    c.store_word.ensures.same_room ∙ ap readies c.self.view_is

pub returns-clause-written : goal.returns-clause-written
returns-clause-written c =
    let old : Layers = record { above = c.self.inside.above; below = c.self.inside.below } in
    let ready : is_some (page_in old.above (c.args.address / 1024)) ≡ true = ap (λ (l : Layers). is_some (page_in l.above (c.args.address / 1024))) c.self.view_is ∙ c.requires.room in
    (λ i k. put_above old (record { above = c.store_word.new.self; below = c.self.inside.below }) c.args.address (to_le_bytes w32 c.args.value) (λ _. c.self.inside.below)
    (λ n j. c.store_word.ensures.same_room j n) (λ n j. c.store_word.ensures.written j n) ready (omega (arith, c.requires.aligned)) k i)
    ∙ ap (λ (l : Layers). put (memory_in l) c.args.address (to_le_bytes w32 c.args.value)) c.self.view_is
