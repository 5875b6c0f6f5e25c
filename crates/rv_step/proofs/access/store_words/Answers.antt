use Rattle.std.proofs.Common.{◌≡◌, suc, ◌+◌, ◌∙◌, refl, ap, arith, take}
use Rattle.std.specs.Int.{w32, to_le_bytes}
use Rattle.std.specs.List.{flat_map}
use Rattle.page_core.specs.Memory.{put}
use Rattle.rv_step.proofs.Words.{none_put, word_put}
use Rattle.rv_step.proofs.access.store_words.Goals as goal

pub loop-word-init : goal.loop-word-init
loop-word-init g c = (omega arith, refl, refl, none_put (g.B.Bus.byte_at c.args.bus.now) c.args.address)

pub loop-word-preserved : goal.loop-word-preserved
loop-word-preserved g c =
    let (there, pages, room, before) = c.loop-word.invariant in
    let next : suc c.loop-word.word-index ≡ c.loop-word.word-index + 1 = omega arith in (
      omega arith,
      c.store_word.ensures.same_pages ∙ pages,
      c.store_word.ensures.same_room ∙ room,
      word_put (g.B.Bus.byte_at c.args.bus.now) _ _ c.args.address c.loop-word.at c.loop-word.word-index _ c.args.words.now (omega arith) there refl before
          c.store_word.ensures.written
          ∙ ap (λ k. put (g.B.Bus.byte_at c.args.bus.now) c.args.address (flat_map (to_le_bytes w32) (take k c.args.words.now))) next,
    )
