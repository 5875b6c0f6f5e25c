use Rattle.std.proofs.Common.{◌<◌, length, sym, ap, ◌∙◌, arith}
use Rattle.page_core.specs.Memory.{top}
use Rattle.rv_step.specs.Machine.{State, act_with_words}
use Rattle.rv_step.specs.Tapes.{no_log}
use Rattle.rv_step.specs.Stepping.{state_at}
use Rattle.rv_step.proofs.Looks.{fetched_out, fetched_in, sound_told}
use Rattle.rv_step.proofs.looking.fetch.Goals as goal

pub returns-then-pc-ge-TOP-clause-answer : goal.returns-then-pc-ge-TOP-clause-answer
returns-then-pc-ge-TOP-clause-answer g c = λ log.
    let s : State = state_at c.args.core.now (g.B.Bus.byte_at c.args.bus.now) c.args.tape.now log in
    fetched_out (g.B.Bus.opens c.args.bus.now) s (sym c.is_open.ensures ∙ c.if-not-is_open.false) c.if-pc-ge-TOP.true

pub returns-then-pc-ge-TOP-clause-sound : goal.returns-then-pc-ge-TOP-clause-sound
returns-then-pc-ge-TOP-clause-sound g c =
    let s : State = state_at c.args.core.now (g.B.Bus.byte_at c.args.bus.now) c.args.tape.now no_log in
    sound_told (g.B.Bus.opens c.args.bus.now) s _ c.requires (returns-then-pc-ge-TOP-clause-answer g c no_log)

pub returns-clause-answer : goal.returns-clause-answer
returns-clause-answer g c = λ log.
    let s : State = state_at c.args.core.now (g.B.Bus.byte_at c.args.bus.now) c.args.tape.now log in
    let below : s.pc < top = omega arith in
    fetched_in (g.B.Bus.opens c.args.bus.now) s c.load_word.result c.act_at-act.result c.supply.result
    (sym c.is_open.ensures ∙ c.if-not-is_open.false) below (sym c.is_open-2.ensures ∙ c.if-not-is_open-2.false)
    c.load_word.ensures.value c.act_at-act.ensures.meaning
    (c.supply.ensures.meaning ∙ ap (λ words. act_with_words (length words) c.act_at-act.result) c.rest.ensures)

pub returns-clause-sound : goal.returns-clause-sound
returns-clause-sound g c =
    let s : State = state_at c.args.core.now (g.B.Bus.byte_at c.args.bus.now) c.args.tape.now no_log in
    sound_told (g.B.Bus.opens c.args.bus.now) s c.supply.result c.requires (returns-clause-answer g c no_log)
