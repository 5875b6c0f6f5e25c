-- The act that is next, and what doing it answers.
use Rattle.std.proofs.Common.{◌≡◌, ℕ, zero, suc, ◌+◌, ◌/◌, ◌%◌, ◌<◌, ◌≤◌, Bool, true, false, not, cond, leb, List, [], ◌∷◌, length, get_or, take, refl, sym, ap, ◌∙◌, subst, arith, add-zero, IsTrue, Option, Some, None, Result, Ok, Err, ⊎_elim}
use Rattle.rv_step.proofs.Feet.{data_within}
use Rattle.std.specs.Int.{byte_len}
use Rattle.std.proofs.lemmas.Bool.Decides.{leb_tells}
use Rattle.std.specs.Prelude.{Contains}
use Rattle.std.proofs.lemmas.Option.{none-some}
use Rattle.std.proofs.lemmas.List.Elements.{Contains-append_left, Contains-append_right}
use Rattle.rv_isa.specs.declared.instr.LoadOp.{LoadOp}
use Rattle.rv_isa.specs.declared.instr.LoadOp.TheVariants.{Lb, Lh, Lw, Lbu, Lhu}
use Rattle.rv_isa.specs.declared.instr.StoreOp.{StoreOp}
use Rattle.rv_isa.specs.declared.instr.StoreOp.TheVariants.{Sb, Sh, Sw}
use Rattle.rv_isa.specs.declared.fault.Fault.{Fault}
use Rattle.host_calls.specs.declared.call.Call.{Call}
use Rattle.page_core.specs.Memory.{top, pages_of, ascending, without}
use Rattle.rv_step.specs.declared.act.Act.{Act}
use Rattle.rv_step.specs.declared.act.Act.TheVariants.{Sets, Does, Faults}
use Rattle.rv_step.specs.Machine.{data_of, State, Event, Went, Faulted, load_width, store_width, act, act_event, call_event, pages_of_all, foot_at, foot_of, cost_of_act, step_of, step_cost, first_closed}
use Rattle.rv_isa.specs.Registers.{with_register}
use Rattle.rv_step.specs.declared.stepping.Event.{Event as StepEvent}
use Rattle.rv_step.specs.declared.stepping.Event.TheVariants as E
use Rattle.rv_step.specs.declared.stepping.StepStop.{StepStop}
use Rattle.rv_step.specs.declared.stepping.StepStop.TheVariants as S
use Rattle.rv_step.specs.Stepping.{fetch_foot, Opens, AllOpen, IsNext, AnswersEvent, IsStepOf, IsPaidStepOf, fetched_act, act_fault}
use Rattle.rv_step.specs.Acts.{IsSound}
use Rattle.rv_step.proofs.Acts.{acts_are_sound}
use Rattle.rv_step.proofs.Frame.{IsSupplied, supplied_act}
use Rattle.page_core.proofs.Listed.{Contains-none, Contains-cases}
use Rattle.page_core.proofs.Bytes.{in_pages_of}
use Rattle.rv_step.proofs.Looks.{out, missed, told}

-- ---- pages that are tested one after the other
closed_here : (opens : ℕ → Bool) (pages : List ℕ) (k : ℕ) → k < length pages → first_closed opens (take k pages) ≡ None → opens (get_or pages k 0) ≡ false
    → first_closed opens pages ≡ Some (get_or pages k 0)
closed_here opens [] k h none shut = absurd (omega arith)
closed_here opens (p ∷ pages) zero h none shut = rw shut refl
closed_here opens (p ∷ pages) (suc k) h none shut = go (opens p) none (λ rest. closed_here opens pages k (omega arith) rest shut)
  where
    go : (b : Bool) → cond (not b) (Some p) (first_closed opens (take k pages)) ≡ None
        → (first_closed opens (take k pages) ≡ None → first_closed opens pages ≡ Some (get_or pages k 0))
        → cond (not b) (Some p) (first_closed opens pages) ≡ Some (get_or pages k 0)
    go true none rest = rest none
    go false none rest = absurd (cc)

open_here : (opens : ℕ → Bool) (pages : List ℕ) (k : ℕ) → k < length pages → first_closed opens (take k pages) ≡ None → opens (get_or pages k 0) ≡ true
    → first_closed opens (take (suc k) pages) ≡ None
open_here opens [] k h none shown = absurd (omega arith)
open_here opens (p ∷ pages) zero h none shown = rw shown refl
open_here opens (p ∷ pages) (suc k) h none shown = go (opens p) none (λ rest. open_here opens pages k (omega arith) rest shown)
  where
    go : (b : Bool) → cond (not b) (Some p) (first_closed opens (take k pages)) ≡ None
        → (first_closed opens (take k pages) ≡ None → first_closed opens (take (suc k) pages) ≡ None)
        → cond (not b) (Some p) (first_closed opens (take (suc k) pages)) ≡ None
    go true none rest = rest none
    go false none rest = absurd (cc)

pub closed_at : (opens : ℕ → Bool) (pages : List ℕ) (k : ℕ) (b : Bool) → k < length pages → first_closed opens (take k pages) ≡ None
    → b ≡ opens (get_or pages k 0) → b ≡ false → Some (get_or pages k 0) ≡ first_closed opens pages
closed_at opens pages k b h none is shut = sym (closed_here opens pages k h none (sym is ∙ shut))

pub open_on : (opens : ℕ → Bool) (pages : List ℕ) (k : ℕ) (b : Bool) → k < length pages → first_closed opens (take k pages) ≡ None
    → b ≡ opens (get_or pages k 0) → b ≡ true → first_closed opens (take (k + 1) pages) ≡ None
open_on opens pages k b h none is shown =
    let next : k + 1 ≡ suc k = omega arith in
    ap (λ j. first_closed opens (take j pages)) next ∙ open_here opens pages k h none (sym is ∙ shown)

-- ---- doing what was looked at
-- a page that the fetch misses is the first of the footprint that isn't open
pub first_in_fetch : (opens : ℕ → Bool) (s : State) (page : ℕ) → first_closed opens (fetch_foot s) ≡ Some page → first_closed opens (foot_of s) ≡ Some page
unfolding foot_of
first_in_fetch opens s page h = go (leb top s.pc) h
  where
    go : (b : Bool) → first_closed opens (cond b (262143 ∷ []) (262143 ∷ s.pc / 1024 ∷ [])) ≡ Some page
        → first_closed opens (cond b (262143 ∷ []) (262143 ∷ s.pc / 1024 ∷ ascending (without (s.pc / 1024) (pages_of_all (data_of (act s)))))) ≡ Some page
    go true h = h
    go false h = more (opens 262143) (opens (s.pc / 1024)) h
      where
        rest : Option ℕ
        rest = first_closed opens (ascending (without (s.pc / 1024) (pages_of_all (data_of (act s)))))

        more : (b c : Bool) → cond (not b) (Some 262143) (cond (not c) (Some (s.pc / 1024)) None) ≡ Some page
            → cond (not b) (Some 262143) (cond (not c) (Some (s.pc / 1024)) rest) ≡ Some page
        more false c h = h
        more true false h = h
        more true true h = absurd (cc)

-- where none is closed each is open
pub all_open : (opens : ℕ → Bool) (pages : List ℕ) → first_closed opens pages ≡ None → (p : ℕ) → Contains pages p → IsTrue (opens p)
all_open opens [] none p h = absurd (Contains-none p h)
all_open opens (q ∷ pages) none p h = go (opens q) refl none (λ more. all_open opens pages more p)
  where
    go : (b : Bool) → opens q ≡ b → cond (not b) (Some q) (first_closed opens pages) ≡ None
        → (first_closed opens pages ≡ None → Contains pages p → IsTrue (opens p)) → IsTrue (opens p)
    go true e none rest = ⊎_elim (λ t. ap opens t ∙ e) (rest none) (Contains-cases p q pages h)
    go false e none rest = absurd (cc)

-- ranges of data whose pages are open
pub ranges_open : (opens : ℕ → Bool) (rs : List (ℕ × ℕ)) → ((p : ℕ) → Contains (pages_of_all rs) p → IsTrue (opens p)) → AllOpen opens rs
unfolding pages_of_all
ranges_open opens [] h = tt
ranges_open opens (r ∷ rs) h = (
  λ k l. h ((r.0 + k) / 1024) (Contains-append_left (pages_of r.0 r.1) (pages_of_all rs) ((r.0 + k) / 1024) (in_pages_of r.0 r.1 (r.0 + k) (omega arith) (omega arith))),
  ranges_open opens rs (λ p m. h p (Contains-append_right (pages_of r.0 r.1) (pages_of_all rs) p m)),
)

pub missed_first : (opens : ℕ → Bool) (s : State) (page : ℕ) → Err page ≡ fetched_act opens s → first_closed opens (foot_of s) ≡ Some page
missed_first opens s page h = first_in_fetch opens s page (missed opens s page h)

-- an act that was told, and whose footprint has no closed page, is next
pub is_next : (opens : ℕ → Bool) (s : State) (a : Act) (foot pages : List ℕ) → Ok a ≡ fetched_act opens s → foot ≡ foot_at s.pc a → pages ≡ foot
    → None ≡ first_closed opens pages → IsNext opens s a
unfolding foot_of
is_next opens s a foot pages is made listed none =
    let same : a ≡ act s = (told opens s a is).0 in
    record { is = same; no_closed = sym (none ∙ ap (first_closed opens) (listed ∙ made ∙ ap (foot_at s.pc) same)) }

pub is_missed : (opens : ℕ → Bool) (s : State) (a : Act) (foot pages : List ℕ) (page : ℕ) → Ok a ≡ fetched_act opens s → foot ≡ foot_at s.pc a → pages ≡ foot
    → Some page ≡ first_closed opens pages → first_closed opens (foot_of s) ≡ Some page
unfolding foot_of
is_missed opens s a foot pages page is made listed some =
    sym (some ∙ ap (first_closed opens) (listed ∙ made ∙ ap (foot_at s.pc) (told opens s a is).0))

module _ (opens : ℕ → Bool) (s : State) (a : Act) (next : IsNext opens s a) where
  pub next_sound : s.pc % 4 ≡ 0 → IsSound s.x a
  next_sound aligned = subst (λ (b : Act). IsSound s.x b) (sym next.is) (acts_are_sound s aligned)

  -- one that doesn't fault was fetched in range
  pub next_place : act_fault a ≡ None → s.pc < top
  next_place none = ⊎_elim (λ t. absurd (none-some _ (sym none ∙ ap act_fault (next.is ∙ out s t.1)))) (λ t. t.1) (leb_tells top s.pc)

  pub next_supplied : IsSupplied (length s.words) a
  next_supplied = subst (λ (b : Act). IsSupplied (length s.words) b) (sym next.is) (supplied_act s)

  pub next_step : step_of s ≡ act_event a s
  unfolding step_of
  next_step = ap (λ b. act_event b s) (sym next.is)

  -- what it costs is what the step costs
  pub next_cost : cost_of_act a ≡ step_cost s
  unfolding step_cost
  next_cost = ap cost_of_act next.is

  -- its data lie in open pages
  pub next_open : AllOpen opens (data_of a)
  next_open =
      ranges_open opens (data_of a)
      (λ p h. all_open opens (foot_of s) next.no_closed p (data_within s p (subst (λ (b : Act). Contains (pages_of_all (data_of b)) p) next.is h)))

-- the same, of an act that is seen to be this one
pub next_as : (opens : ℕ → Bool) (s : State) (a b : Act) → a ≡ b → IsNext opens s a → IsNext opens s b
next_as opens s a b e next = subst (λ (c : Act). IsNext opens s c) e next

-- what a step that goes on or halts tells
pub step_answers : (opens : ℕ → Bool) (s : State) (a : Act) (event : Event) → IsNext opens s a → act_event a s ≡ event
    → (first_closed opens (foot_of s) ≡ None) × (step_of s ≡ event)
step_answers opens s a event next h = (next.no_closed, next_step opens s a next ∙ h)

pub call_done : (call : Call) (s : State) → act_event (Does call) s ≡ call_event call s
unfolding act_event
call_done call s = refl

pub sets_done : (pc rd v : ℕ) (s : State) → act_event (Sets pc rd v) s ≡ Went (record s { pc = pc; x = with_register s.x rd v })
unfolding act_event
sets_done pc rd v s = refl

pub fault_done : (f : Fault) (s : State) → act_event (Faults f) s ≡ Faulted f
unfolding act_event
fault_done f s = refl

-- the answer of a call, as the step's
pub call_answers : (opens : ℕ → Bool) (s t : State) (call : Call) (answer : Result StepEvent StepStop) → IsNext opens s (Does call)
    → AnswersEvent (call_event call s) s t answer → IsStepOf opens s t answer
call_answers opens s t call (Ok E.Went) next h = step_answers opens s (Does call) _ next (call_done call s ∙ h)
call_answers opens s t call (Ok (E.Halted code)) next h =
    let (none, is) = step_answers opens s (Does call) _ next (call_done call s ∙ h.0) in (none, (is, h.1))
call_answers opens s t call (Err (S.Miss page)) next h = absurd h
call_answers opens s t call (Err (S.Fault fault)) next h =
    let (none, is) = step_answers opens s (Does call) _ next (call_done call s ∙ h.0) in (none, (is, h.1))
call_answers opens s t call (Err S.Memory) next h = (next.no_closed, h)

-- the refusal of a step that costs little enough, as that of a step within the limit
pub paid_stop : (opens : ℕ → Bool) (room : ℕ) (s t : State) (stop : StepStop) → step_cost s ≤ room → IsStepOf opens s t (Err stop)
    → IsPaidStepOf opens room s t (Err stop)
paid_stop opens room s t (S.Miss page) fits h = h
paid_stop opens room s t (S.Fault fault) fits h = (fits, h)
paid_stop opens room s t S.Memory fits h = h

-- the first byte of a range
pub open_start : (opens : ℕ → Bool) (a n : ℕ) → 0 < n → Opens opens a n → IsTrue (opens (a / 1024))
open_start opens a n some each = subst (λ (k : ℕ). IsTrue (opens (k / 1024))) (add-zero a) (each 0 some)

pub load_some : (op : LoadOp) → 0 < byte_len (load_width op)
load_some Lb = omega arith
load_some Lh = omega arith
load_some Lw = omega arith
load_some Lbu = omega arith
load_some Lhu = omega arith

pub store_some : (op : StoreOp) → 0 < byte_len (store_width op)
store_some Sb = omega arith
store_some Sh = omega arith
store_some Sw = omega arith
