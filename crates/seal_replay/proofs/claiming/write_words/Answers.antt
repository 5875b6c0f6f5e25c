use Rattle.std.proofs.Common.{◌≡◌, ℕ, Bool, length, ap, ◌∙◌, sym, arith, subst}
use Rattle.page_core.specs.Memories.{page_of}
use Rattle.seal_replay.proofs.Written.{AreWritten, written_none, written_next, still_open, written_all, none_written}
use Rattle.seal_replay.proofs.claiming.write_words.Goals as goal

pub returns-then-not-is_open-clause-bytes : goal.returns-then-not-is_open-clause-bytes
returns-then-not-is_open-clause-bytes c =
    let size : length c.args.regs ≡ 32 = omega arith in
    none_written c.args.pages.now c.args.regs size (sym c.is_open.ensures ∙ c.if-not-is_open.true)

pub loop-n-init : goal.loop-n-init
loop-n-init c = written_none c.args.pages.now c.args.regs

pub store_word-requires-clause-opened : goal.store_word-requires-clause-opened
store_word-requires-clause-opened c =
    still_open c.args.pages.now c.loop-n.pages c.args.regs c.loop-n.n _ c.loop-n.invariant (omega arith) (sym c.is_open.ensures ∙ c.if-not-is_open.false)

pub store_word-requires-clause-room : goal.store_word-requires-clause-room
store_word-requires-clause-room c =
    still_open c.args.pages.now c.loop-n.pages c.args.regs c.loop-n.n _ c.loop-n.invariant (omega arith) (sym c.is_open.ensures ∙ c.if-not-is_open.false)

pub loop-n-preserved : goal.loop-n-preserved
loop-n-preserved c =
    let size : length c.args.regs ≡ 32 = omega arith in
    written_next c.args.pages.now c.loop-n.pages c.store_word.new.self c.args.regs c.loop-n.n c.get.result _ c.loop-n.invariant (omega arith) (omega arith) size
    c.get.ensures (omega arith) c.store_word.ensures.same_pages c.store_word.ensures.written

pub returns-clause-open : goal.returns-clause-open
returns-clause-open c = λ n. ap (λ (f : ℕ → Bool). f n) c.loop-n.invariant.opens

pub returns-clause-bytes : goal.returns-clause-bytes
returns-clause-bytes c =
    let size : length c.args.regs ≡ 32 = omega arith in
    let all : c.loop-n.n ≡ 32 = omega arith in
    λ n shown. ap (λ (m : ℕ → ℕ). page_of m n)
    (written_all c.args.pages.now c.loop-n.pages c.args.regs (subst (λ (k : ℕ). AreWritten c.args.pages.now c.loop-n.pages c.args.regs k) all c.loop-n.invariant) size)
