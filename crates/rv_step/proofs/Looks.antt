-- What looking at a step tells: its footprint, its cost and its fault.
use Rattle.std.proofs.Common.{◌≡◌, ◌≢◌, ℕ, zero, suc, ◌+◌, ◌-◌, ◌/◌, ◌%◌, ◌<◌, ◌≤◌, Bool, true, false, cond, leb, eqb, List, [], ◌∷◌, ◌++◌, length, refl, sym, ap, ap₂, ◌∙◌, subst, arith, append-nil, IsTrue, Option, Some, None, Result, Ok, Err}
use Rattle.std.specs.Int.{w32, from_le_bytes}
use Rattle.std.proofs.lemmas.Bool.Decides.{nat_tests}
use Rattle.rv_isa.specs.declared.fault.Fault.TheVariants.{BadAddress}
use Rattle.host_calls.specs.declared.call.Call.{Call}
use Rattle.host_calls.specs.declared.call.Call.TheVariants.{Halt, Read, Commit, Assume}
use Rattle.host_calls.specs.Calls.{fits_below}
use Rattle.host_calls.specs.Foots.{with_data, with_pages}
use Rattle.page_core.specs.Memory.{top, bytes, pages_from, pages_of, place, ascending, without}
use Rattle.rv_step.specs.declared.act.Act.{Act}
use Rattle.rv_step.specs.declared.act.Act.TheVariants.{Sets, Loads, Stores, Does, Faults}
use Rattle.rv_step.specs.Machine.{data_of, State, act_of_word, act_with_words, act, act_event, call_event, pages_of_all, foot_at, foot_of, step_of, step_cost, cost_of_act, first_closed}
use Rattle.rv_step.specs.Stepping.{fetch_foot, unless_closed, fetched_act, looked_of, act_fault, fault_in}
use Rattle.rv_step.specs.declared.looking.Looked.{Looked}
use Rattle.rv_step.specs.Acts.{IsSound}
use Rattle.rv_step.proofs.Acts.{acts_are_sound}
use Rattle.rv_step.proofs.Frame.{act_in, act_out}
use Rattle.rv_step.proofs.Feet.{foot_at-in_range}

-- ---- footprints
placed : (c p : ℕ) (ps : List ℕ) (b : Bool)
    → cond b (ascending (without c ps)) (place p (ascending (without c ps))) ≡ ascending (cond b (without c ps) (p ∷ without c ps))
unfolding ascending
placed c p ps true = refl
placed c p ps false = refl

-- adding pages one by one, the last first, is the footprint with all of them
pub with_all : (r c : ℕ) (ps : List ℕ) → with_pages (r ∷ c ∷ []) ps ≡ r ∷ c ∷ ascending (without c ps)
unfolding ascending without
with_all r c [] = refl
with_all r c (p ∷ ps) = ap (with_data p) (with_all r c ps) ∙ ap (λ rest. r ∷ c ∷ rest) (placed c p ps (eqb c p))

pub with_both : (foot ps qs : List ℕ) → with_pages foot (ps ++ qs) ≡ with_pages (with_pages foot qs) ps
with_both foot [] qs = refl
with_both foot (p ∷ ps) qs = ap (with_data p) (with_both foot ps qs)

-- the footprint of an act whose data lie in these pages
pub foot_made : (pc : ℕ) (a : Act) (ps foot new : List ℕ) → pc < top → pages_of_all (data_of a) ≡ ps → foot ≡ 262143 ∷ pc / 1024 ∷ [] → new ≡ with_pages foot ps
    → new ≡ foot_at pc a
foot_made pc a ps foot new h own is made =
    made ∙ ap₂ with_pages is (sym own) ∙ with_all 262143 (pc / 1024) (pages_of_all (data_of a)) ∙ sym (foot_at-in_range pc a h)

pub no_ranges : pages_of_all [] ≡ []
unfolding pages_of_all
no_ranges = refl

-- one that touches no data
pub foot_plain : (pc : ℕ) (a : Act) (foot : List ℕ) → pc < top → data_of a ≡ [] → foot ≡ 262143 ∷ pc / 1024 ∷ [] → foot ≡ foot_at pc a
foot_plain pc a foot h none is = foot_made pc a [] foot foot h (ap pages_of_all none ∙ no_ranges) is refl

pub one_range : (a n : ℕ) → pages_of_all ((a, n) ∷ []) ≡ pages_of a n
unfolding pages_of_all
one_range a n = append-nil (pages_of a n)

pub two_ranges : (a b n : ℕ) → pages_of_all ((a, n) ∷ (b, n) ∷ []) ≡ pages_of a n ++ pages_of b n
unfolding pages_of_all
two_ranges a b n = ap (λ ps. pages_of a n ++ ps) (append-nil (pages_of b n))

-- ---- the pages of a range
pub no_pages : (a n : ℕ) → n ≡ 0 → pages_of a n ≡ []
no_pages a zero h = refl
no_pages a (suc n) h = absurd (omega (arith, h))

from_one : (p : ℕ) → pages_from p 1 ≡ p ∷ []
unfolding pages_from
from_one p = refl

from_two : (p : ℕ) → pages_from p 2 ≡ p ∷ (p + 1) ∷ []
unfolding pages_from
from_two p = refl

pub one_page_of : (a n : ℕ) → n ≢ 0 → (a + n - 1) / 1024 ≡ a / 1024 → pages_of a n ≡ a / 1024 ∷ []
one_page_of a zero some same = absurd (some refl)
one_page_of a (suc n) some same =
    let count : (a + n) / 1024 + 1 - a / 1024 ≡ 1 = omega (arith, same) in
    ap (pages_from (a / 1024)) count ∙ from_one (a / 1024)

pub two_pages_of : (a n : ℕ) → n ≢ 0 → n ≤ 1024 → (a + n - 1) / 1024 ≢ a / 1024 → pages_of a n ≡ a / 1024 ∷ (a + n - 1) / 1024 ∷ []
two_pages_of a zero some few other = absurd (some refl)
two_pages_of a (suc n) some few other =
    let away : (a + n) / 1024 ≢ a / 1024 = λ e. other (ap (λ k. k / 1024) (omega arith) ∙ e) in
    let count : (a + n) / 1024 + 1 - a / 1024 ≡ 2 = omega (arith, away) in
    let last : a / 1024 + 1 ≡ (a + suc n - 1) / 1024 = omega (arith, away) in
    ap (pages_from (a / 1024)) count ∙ from_two (a / 1024) ∙ ap (λ k. a / 1024 ∷ k ∷ []) last

pub range_fits : (a n : ℕ) → IsTrue (fits_below a n) → n ≢ 0 → a + n ≤ top
range_fits a zero h some = absurd (some refl)
range_fits a (suc n) h some = grind (arith, nat_tests)

-- ---- the fetch
pub no_register_page : (opens : ℕ → Bool) (s : State) → opens 262143 ≡ false → first_closed opens (fetch_foot s) ≡ Some 262143
no_register_page opens s h = go (leb top s.pc)
  where
    go : (b : Bool) → first_closed opens (cond b (262143 ∷ []) (262143 ∷ s.pc / 1024 ∷ [])) ≡ Some 262143
    go true = rw h refl
    go false = rw h refl

fetch_open : (opens : ℕ → Bool) (s : State) → opens 262143 ≡ true → top ≤ s.pc → first_closed opens (fetch_foot s) ≡ None
fetch_open opens s h l = let e : leb top s.pc ≡ true = grind (arith, nat_tests) in rw (e, h) refl

fetch_in : (s : State) → s.pc < top → fetch_foot s ≡ 262143 ∷ s.pc / 1024 ∷ []
fetch_in s l = let e : leb top s.pc ≡ false = grind (arith, nat_tests) in rw e refl

code_open : (opens : ℕ → Bool) (s : State) → opens 262143 ≡ true → s.pc < top → opens (s.pc / 1024) ≡ true → first_closed opens (fetch_foot s) ≡ None
code_open opens s h l k = ap (first_closed opens) (fetch_in s l) ∙ rw (h, k) refl

pub out : (s : State) → top ≤ s.pc → act s ≡ Faults (BadAddress s.pc)
out s l = act_out s (grind (arith, nat_tests))

-- a fetch out of range faults
pub fetched_out : (opens : ℕ → Bool) (s : State) → opens 262143 ≡ true → top ≤ s.pc → Ok (Faults (BadAddress s.pc)) ≡ fetched_act opens s
fetched_out opens s h l = ap Ok (sym (out s l)) ∙ ap (λ o. unless_closed o (act s)) (sym (fetch_open opens s h l))

-- a fetch in range of open pages
pub fetched_in : (opens : ℕ → Bool) (s : State) (w : ℕ) (a b : Act) → opens 262143 ≡ true → s.pc < top → opens (s.pc / 1024) ≡ true
    → w ≡ from_le_bytes w32 (bytes s.memory s.pc 4) → a ≡ act_of_word w s.pc s.x → b ≡ act_with_words (length s.words) a → Ok b ≡ fetched_act opens s
fetched_in opens s w a b h l k word decoded given =
    let same : b ≡ act s =
    given ∙ ap (act_with_words (length s.words)) (decoded ∙ ap (λ n. act_of_word n s.pc s.x) word) ∙ sym (act_in s (grind (arith, nat_tests))) in
    ap Ok same ∙ ap (λ o. unless_closed o (act s)) (sym (code_open opens s h l k))

-- ---- looking
called_fault : (call : Call) (s : State) → fault_in (call_event call s) ≡ None
unfolding call_event
called_fault (Halt code) s = refl
called_fault (Read pointer count) s = refl
called_fault (Commit pointer count) s = refl
called_fault (Assume image journal) s = refl

done_fault : (a : Act) (s : State) → fault_in (act_event a s) ≡ act_fault a
unfolding act_event
done_fault (Sets pc rd v) s = refl
done_fault (Loads op rd a) s = refl
done_fault (Stores op a v) s = refl
done_fault (Does call) s = called_fault call s
done_fault (Faults f) s = refl

step_fault : (s : State) → fault_in (step_of s) ≡ act_fault (act s)
unfolding step_of
step_fault s = done_fault (act s) s

abbrev pub look_at : ℕ → Act → Looked
look_at pc a = record { foot = foot_at pc a; cost = cost_of_act a; fault = act_fault a }

looks_at : (s : State) → record { foot = foot_of s; cost = step_cost s; fault = fault_in (step_of s) } ≡ look_at s.pc (act s)
unfolding foot_of step_cost
looks_at s = λ i. record { foot = foot_at s.pc (act s); cost = cost_of_act (act s); fault = step_fault s i }

err_same : {A : Type 0} (p q : ℕ) → ◌≡◌ {A = Result A ℕ} (Err p) (Err q) → p ≡ q
err_same p q e = cc

no_err : {A : Type 0} (p : ℕ) (a : A) → ◌≡◌ {A = Result A ℕ} (Err p) (Ok a) → ⊥
no_err p a e = cc

ok_same : {A : Type 0} (a b : A) → ◌≡◌ {A = Result A ℕ} (Ok a) (Ok b) → a ≡ b
ok_same a b e = cc

-- a page that the fetch misses is missed
pub missed : (opens : ℕ → Bool) (s : State) (page : ℕ) → Err page ≡ fetched_act opens s → first_closed opens (fetch_foot s) ≡ Some page
missed opens s page h = go (first_closed opens (fetch_foot s)) h
  where
    go : (o : Option ℕ) → Err page ≡ unless_closed o (act s) → o ≡ Some page
    go (Some q) e = ap Some (sym (err_same page q e))
    go None e = absurd (no_err page (act s) e)

-- and an act that is told is the step's, and the pages of its fetch are open
pub told : (opens : ℕ → Bool) (s : State) (a : Act) → Ok a ≡ fetched_act opens s → (a ≡ act s) × (first_closed opens (fetch_foot s) ≡ None)
told opens s a h = go (first_closed opens (fetch_foot s)) h
  where
    go : (o : Option ℕ) → Ok a ≡ unless_closed o (act s) → (a ≡ act s) × (o ≡ None)
    go (Some q) e = absurd (no_err q a (sym e))
    go None e = (ok_same a (act s) e, refl)

pub looked_missed : (opens : ℕ → Bool) (s : State) (page : ℕ) → Err page ≡ fetched_act opens s → Err page ≡ looked_of opens s
looked_missed opens s page h = sym (ap (λ o. unless_closed o (record { foot = foot_of s; cost = step_cost s; fault = fault_in (step_of s) })) (missed opens s page h))

pub looked_told : (opens : ℕ → Bool) (s : State) (a : Act) → Ok a ≡ fetched_act opens s → Ok (look_at s.pc a) ≡ looked_of opens s
looked_told opens s a h =
    let t = told opens s a h in
    ap (λ (b : Act). Ok (look_at s.pc b)) t.0 ∙ ap Ok (sym (looks_at s))
    ∙ sym (ap (λ o. unless_closed o (record { foot = foot_of s; cost = step_cost s; fault = fault_in (step_of s) })) t.1)

pub sound_told : (opens : ℕ → Bool) (s : State) (a : Act) → s.pc % 4 ≡ 0 → Ok a ≡ fetched_act opens s → IsSound s.x a
sound_told opens s a aligned h = subst (λ (b : Act). IsSound s.x b) (sym (told opens s a h).0) (acts_are_sound s aligned)

-- what was looked at, where the pages of the fetch are open
pub looks_at_step : (opens : ℕ → Bool) (s : State) (looked : Looked) → Ok looked ≡ looked_of opens s → looked.foot ≡ foot_of s
looks_at_step opens s looked h = go (first_closed opens (fetch_foot s)) h
  where
    whole : Looked
    whole = record { foot = foot_of s; cost = step_cost s; fault = fault_in (step_of s) }

    go : (o : Option ℕ) → Ok looked ≡ unless_closed o whole → looked.foot ≡ foot_of s
    go (Some q) e = absurd (no_err q looked (sym e))
    go None e = ap (λ (l : Looked). l.foot) (ok_same looked whole e)

pub looks_missed : (opens : ℕ → Bool) (s : State) (page : ℕ) → Err page ≡ looked_of opens s → first_closed opens (fetch_foot s) ≡ Some page
looks_missed opens s page h = go (first_closed opens (fetch_foot s)) h
  where
    whole : Looked
    whole = record { foot = foot_of s; cost = step_cost s; fault = fault_in (step_of s) }

    go : (o : Option ℕ) → Err page ≡ unless_closed o whole → o ≡ Some page
    go (Some q) e = ap Some (sym (err_same page q e))
    go None e = absurd (no_err page whole e)
