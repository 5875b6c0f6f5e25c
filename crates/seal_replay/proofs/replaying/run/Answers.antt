use Rattle.std.proofs.Common.{rules, ◌≡◌, ℕ, ◌+◌, ◌<◌, ⊎_elim, inl, inr, refl, sym, ap, ◌∙◌, subst, arith, Some, Err, Bool, length, IsTrue, get_or, false}
use Rattle.std.specs.Prelude.{Contains}
use Rattle.page_core.specs.Memory.{is_among}
use Rattle.rv_step.specs.Machine.{State}
use Rattle.rv_step.specs.Stepping.{state_at}
use Rattle.rv_step.specs.declared.stepping.Event.TheVariants as E
use Rattle.receipt_types.specs.Seals.{Seal}
use Rattle.seal_replay.specs.Replay.{opened_by, stop_at}
use Rattle.seal_replay.specs.Replaying.{HasGone, IsEvent}
use Rattle.seal_replay.proofs.Gone.{gone_none, gone_on, gone_last, gone_all, stopped_at}
use Rattle.seal_replay.proofs.Quickly.{gone_quickly, still_open}
use Rattle.seal_replay.proofs.replaying.run.Goals as goal

pub loop-number-init : goal.loop-number-init
loop-number-init g c = record {
  gone = gone_none c.args.seal.now (state_at c.args.core.now (g.B.Bus.byte_at c.args.bus.now) c.args.tape.now c.args.log.now) c.args.marks.now c.requires.enters (λ p h. c.requires.unmarked p);
  aligned = c.requires.aligned;
  opens = c.requires.opens;
  size = refl;
  marked = λ p h. absurd (let both = sym h ∙ c.requires.unmarked p in cc);
  within = omega arith;
}

pub replay_quickly-number-requires-clause-aligned : goal.replay_quickly-number-requires-clause-aligned
replay_quickly-number-requires-clause-aligned g c = c.loop-number.invariant.aligned

pub replay_quickly-number-requires-clause-open : goal.replay_quickly-number-requires-clause-open
replay_quickly-number-requires-clause-open g c = c.loop-number.invariant.marked

pub returns-in_err-replay_step-clause-stop : goal.returns-in_err-replay_step-clause-stop
returns-in_err-replay_step-clause-stop g c =
    let was : State = state_at c.loop-number.core (g.B.Bus.byte_at c.loop-number.bus) c.loop-number.tape c.loop-number.log in
    let s : State = state_at c.replay_quickly-number.new.core (g.B.Bus.byte_at c.replay_quickly-number.new.bus) c.loop-number.tape c.loop-number.log in
    let k : ℕ = c.loop-number.number + c.replay_quickly-number.result in
    let steps : c.seal.inside.steps ≡ c.args.seal.now.steps = ap (λ (seal : Seal). seal.steps) c.seal.view_is in
    let opens : g.B.Bus.opens c.replay_quickly-number.new.bus ≡ is_among (opened_by c.args.seal.now) = c.replay_quickly-number.ensures.same_pages ∙ c.loop-number.invariant.opens in
    let within : (p : ℕ) → Contains (opened_by c.args.seal.now) p → p < length c.loop-number.marks = λ p h. subst (λ (n : ℕ). p < n) (sym c.loop-number.invariant.size) (c.requires.size p h) in
    let gone : HasGone c.args.seal.now s c.loop-number.marks k =
    gone_quickly c.args.seal.now was c.loop-number.marks c.loop-number.number c.loop-number.invariant.gone (g.B.Bus.opens c.loop-number.bus) c.loop-number.invariant.opens within
    c.loop-number.invariant.marked c.replay_quickly-number.result s (c.replay_quickly-number.ensures.went c.loop-number.tape c.loop-number.log) in
    let is : c.from_residual.result ≡ Err c.in_err-replay_step.field-0.0 = search rules in
    let low : k < c.args.seal.now.steps = omega (arith, steps) in
    rw is
    (⊎_elim inl
    (λ stops. inr (stopped_at c.args.seal.now s c.loop-number.marks k gone (g.B.Bus.opens c.replay_quickly-number.new.bus) c.in_err-replay_step.field-0.0 opens low
    (subst (λ (n : ℕ). stop_at (g.B.Bus.opens c.replay_quickly-number.new.bus) n k s ≡ Some c.in_err-replay_step.field-0.0) steps stops)))
    c.in_err-replay_step.ensures.stop)

pub returns-in-Halted-clause-ended : goal.returns-in-Halted-clause-ended
returns-in-Halted-clause-ended g c =
    let was : State = state_at c.loop-number.core (g.B.Bus.byte_at c.loop-number.bus) c.loop-number.tape c.loop-number.log in
    let s : State = state_at c.replay_quickly-number.new.core (g.B.Bus.byte_at c.replay_quickly-number.new.bus) c.loop-number.tape c.loop-number.log in
    let k : ℕ = c.loop-number.number + c.replay_quickly-number.result in
    let steps : c.seal.inside.steps ≡ c.args.seal.now.steps = ap (λ (seal : Seal). seal.steps) c.seal.view_is in
    let opens : g.B.Bus.opens c.replay_quickly-number.new.bus ≡ is_among (opened_by c.args.seal.now) = c.replay_quickly-number.ensures.same_pages ∙ c.loop-number.invariant.opens in
    let within : (p : ℕ) → Contains (opened_by c.args.seal.now) p → p < length c.loop-number.marks = λ p h. subst (λ (n : ℕ). p < n) (sym c.loop-number.invariant.size) (c.requires.size p h) in
    let gone : HasGone c.args.seal.now s c.loop-number.marks k =
    gone_quickly c.args.seal.now was c.loop-number.marks c.loop-number.number c.loop-number.invariant.gone (g.B.Bus.opens c.loop-number.bus) c.loop-number.invariant.opens within
    c.loop-number.invariant.marked c.replay_quickly-number.result s (c.replay_quickly-number.ensures.went c.loop-number.tape c.loop-number.log) in
    let t : State = state_at c.replay_step.new.core (g.B.Bus.byte_at c.replay_step.new.bus) c.replay_step.new.tape c.replay_step.new.log in
    let low : k < c.args.seal.now.steps = omega (arith, steps) in
    gone_last c.args.seal.now s c.loop-number.marks k gone (g.B.Bus.opens c.replay_quickly-number.new.bus) opens c.replay_step.new.marks t
    within c.in_ok-replay_step.ensures.marks c.in-Halted.code low
    (subst (λ (n : ℕ). IsEvent (g.B.Bus.opens c.replay_quickly-number.new.bus) n k s t (E.Halted c.in-Halted.code)) steps
    (subst (λ e. IsEvent (g.B.Bus.opens c.replay_quickly-number.new.bus) c.seal.inside.steps k s t e) c.in-Halted.is c.in_ok-replay_step.ensures.event))

pub loop-number-preserved : goal.loop-number-preserved
loop-number-preserved g c =
    let was : State = state_at c.loop-number.core (g.B.Bus.byte_at c.loop-number.bus) c.loop-number.tape c.loop-number.log in
    let s : State = state_at c.replay_quickly-number.new.core (g.B.Bus.byte_at c.replay_quickly-number.new.bus) c.loop-number.tape c.loop-number.log in
    let k : ℕ = c.loop-number.number + c.replay_quickly-number.result in
    let steps : c.seal.inside.steps ≡ c.args.seal.now.steps = ap (λ (seal : Seal). seal.steps) c.seal.view_is in
    let opens : g.B.Bus.opens c.replay_quickly-number.new.bus ≡ is_among (opened_by c.args.seal.now) = c.replay_quickly-number.ensures.same_pages ∙ c.loop-number.invariant.opens in
    let within : (p : ℕ) → Contains (opened_by c.args.seal.now) p → p < length c.loop-number.marks = λ p h. subst (λ (n : ℕ). p < n) (sym c.loop-number.invariant.size) (c.requires.size p h) in
    let gone : HasGone c.args.seal.now s c.loop-number.marks k =
    gone_quickly c.args.seal.now was c.loop-number.marks c.loop-number.number c.loop-number.invariant.gone (g.B.Bus.opens c.loop-number.bus) c.loop-number.invariant.opens within
    c.loop-number.invariant.marked c.replay_quickly-number.result s (c.replay_quickly-number.ensures.went c.loop-number.tape c.loop-number.log) in
    let t : State = state_at c.replay_step.new.core (g.B.Bus.byte_at c.replay_step.new.bus) c.replay_step.new.tape c.replay_step.new.log in
    let event : IsEvent (g.B.Bus.opens c.replay_quickly-number.new.bus) c.args.seal.now.steps k s t E.Went =
    subst (λ (n : ℕ). IsEvent (g.B.Bus.opens c.replay_quickly-number.new.bus) n k s t E.Went) steps
    (subst (λ e. IsEvent (g.B.Bus.opens c.replay_quickly-number.new.bus) c.seal.inside.steps k s t e) c.in-Went.is c.in_ok-replay_step.ensures.event) in
    let marked : (p : ℕ) → IsTrue (get_or c.loop-number.marks p false) → IsTrue (g.B.Bus.opens c.replay_quickly-number.new.bus p) =
    λ p h. ap (λ (o : ℕ → Bool). o p) c.replay_quickly-number.ensures.same_pages ∙ c.loop-number.invariant.marked p h in
    record {
      gone = gone_on c.args.seal.now s c.loop-number.marks k gone (g.B.Bus.opens c.replay_quickly-number.new.bus) opens c.replay_step.new.marks t within c.in_ok-replay_step.ensures.marks event;
      aligned = c.replay_step.ensures.aligned;
      opens = c.replay_step.ensures.same_pages ∙ opens;
      size = c.replay_step.ensures.size ∙ c.loop-number.invariant.size;
      marked = λ p h.
          ap (λ (o : ℕ → Bool). o p) c.replay_step.ensures.same_pages
          ∙ still_open (g.B.Bus.opens c.replay_quickly-number.new.bus) c.loop-number.marks c.replay_step.new.marks c.args.seal.now.steps k s t c.replay_step.ensures.size marked
          c.in_ok-replay_step.ensures.marks event p h;
      within = omega (arith, steps);
    }

pub returns-then-number-seal-clause-ended : goal.returns-then-number-seal-clause-ended
returns-then-number-seal-clause-ended g c =
    let was : State = state_at c.loop-number.core (g.B.Bus.byte_at c.loop-number.bus) c.loop-number.tape c.loop-number.log in
    let s : State = state_at c.replay_quickly-number.new.core (g.B.Bus.byte_at c.replay_quickly-number.new.bus) c.loop-number.tape c.loop-number.log in
    let k : ℕ = c.loop-number.number + c.replay_quickly-number.result in
    let steps : c.seal.inside.steps ≡ c.args.seal.now.steps = ap (λ (seal : Seal). seal.steps) c.seal.view_is in
    let opens : g.B.Bus.opens c.replay_quickly-number.new.bus ≡ is_among (opened_by c.args.seal.now) = c.replay_quickly-number.ensures.same_pages ∙ c.loop-number.invariant.opens in
    let within : (p : ℕ) → Contains (opened_by c.args.seal.now) p → p < length c.loop-number.marks = λ p h. subst (λ (n : ℕ). p < n) (sym c.loop-number.invariant.size) (c.requires.size p h) in
    let gone : HasGone c.args.seal.now s c.loop-number.marks k =
    gone_quickly c.args.seal.now was c.loop-number.marks c.loop-number.number c.loop-number.invariant.gone (g.B.Bus.opens c.loop-number.bus) c.loop-number.invariant.opens within
    c.loop-number.invariant.marked c.replay_quickly-number.result s (c.replay_quickly-number.ensures.went c.loop-number.tape c.loop-number.log) in
    let all : k ≡ c.args.seal.now.steps = omega (arith, steps) in
    gone_all c.args.seal.now s c.loop-number.marks (subst (λ (n : ℕ). HasGone c.args.seal.now s c.loop-number.marks n) all gone)

pub returns-after-loop-number-clause-ended : goal.returns-after-loop-number-clause-ended
returns-after-loop-number-clause-ended g c =
    let s : State = state_at c.loop-number.core (g.B.Bus.byte_at c.loop-number.bus) c.loop-number.tape c.loop-number.log in
    let steps : c.seal.inside.steps ≡ c.args.seal.now.steps = ap (λ (seal : Seal). seal.steps) c.seal.view_is in
    let all : c.loop-number.number ≡ c.args.seal.now.steps = omega (arith, steps, c.loop-number.invariant.within) in
    gone_all c.args.seal.now s c.loop-number.marks (subst (λ (n : ℕ). HasGone c.args.seal.now s c.loop-number.marks n) all c.loop-number.invariant.gone)
