-- How a run is cut: which of its steps are done, which of them fit, and the segments and seals one at a time. H is the digest function.
use Rattle.std.proofs.Common.{◌≡◌, ◌⊎◌, inl, inr, ⊎_elim, ℕ, zero, suc, ◌+◌, ◌-◌, ◌<◌, ◌≤◌, Bool, true, false, cond, leb, eqb, List, [], ◌∷◌, ◌++◌, length, Option, Some, None, refl, sym, ap, ◌∙◌, subst, arith}
use Rattle.std.proofs.lemmas.Bool.Decides.{nat_tests, eqb_tells, leb_tells}
use Rattle.page_core.specs.Memory.{ascending}
use Rattle.rv_step.specs.Machine.{State, step_of, step_cost}
use Rattle.rv_step.specs.Runs.{after, run_cost, run_pages, pages_at}
use Rattle.rv_step.specs.Laws.{IsReady}
use Rattle.std.proofs.lemmas.Bool.{cond_both, true≢false, and_parts, leb-true, le-leb}
use Rattle.rv_step.proofs.Kept.{step_keeps}
use Rattle.std.proofs.lemmas.Option.{same_Some}
use Rattle.rv_step.proofs.Runs.{step_back, run_keeps, after-add, spent_next}
use Rattle.flat_machine.proofs.RunFeet.{some_cost}
use Rattle.receipt_types.specs.Bundles.{item}
use Rattle.executor.specs.Segments.{Limits, is_fault, is_done, is_done_at, is_nth_done, greatest, done_in, segment_fits, longest, segments, total}
use Rattle.executor.specs.Proving.{seal_from, seals_from}
use Rattle.executor.specs.Laws.{AreLengths}
use Rattle.executor.proofs.Ordered.{ascending_grows}

-- ---- the steps of a run
pub at_or_below : (k n : ℕ) → k ≤ n → (k < n) ⊎ (k ≡ n)
at_or_below k n h = ⊎_elim (λ t. inr t.1) (λ t. inl (omega (arith, h, t.1))) (eqb_tells k n)

-- a run that has gone on was where it was before
pub before_end : (s : State) (n : ℕ) (z : State) (k : ℕ) → after s n ≡ Some z → k ≤ n → (v : State) × (after s k ≡ Some v)
before_end s zero z k h low = (z, ap (after s) (omega arith) ∙ h)
before_end s (suc n) z k h low =
    ⊎_elim (λ (l : k < suc n). let (u, before, goes) = step_back s n z h in before_end s n u k before (omega arith))
    (λ (e : k ≡ suc n). (z, ap (after s) e ∙ h)) (at_or_below k (suc n) low)

pub run_ready : (s : State) (n : ℕ) (t : State) → IsReady s → after s n ≡ Some t → IsReady t
run_ready s n t = run_keeps IsReady (λ u v e. (step_keeps u v e).ready) s n t

-- with more steps no less is spent
pub spent_grows : (s : State) (k n : ℕ) → k ≤ n → run_cost s k ≤ run_cost s n
unfolding run_cost
spent_grows s k zero low = let none : k ≡ 0 = omega arith in let e : run_cost s k ≡ run_cost s zero = ap (run_cost s) none in omega (arith, e)
spent_grows s k (suc n) low =
    ⊎_elim (λ (l : k < suc n). omega (arith, spent_grows s k n (omega arith)))
    (λ (e : k ≡ suc n). let same : run_cost s k ≡ run_cost s (suc n) = ap (run_cost s) e in omega (arith, same)) (at_or_below k (suc n) low)

-- each step costs at least 1
pub spent_least : (s : State) (n : ℕ) (t : State) → after s n ≡ Some t → n ≤ run_cost s n
spent_least s zero t h = omega arith
spent_least s (suc n) t h =
    let (u, before, goes) = step_back s n t h in
    omega (arith, spent_least s n u before, spent_next s n u before, some_cost u)

-- ---- the greatest number that passes a test
greatest_most : (test : ℕ → Bool) (n : ℕ) → greatest test n ≤ n
unfolding greatest
greatest_most test zero = omega arith
greatest_most test (suc n) = cond_both (test (suc n)) (suc n) (greatest test n) (λ m. m ≤ suc n) (λ _. omega arith) (λ _. omega (arith, greatest_most test n))

greatest_passes : (test : ℕ → Bool) (n : ℕ) → (greatest test n ≡ 0) ⊎ (test (greatest test n) ≡ true)
unfolding greatest
greatest_passes test zero = inl refl
greatest_passes test (suc n) =
    cond_both (test (suc n)) (suc n) (greatest test n) (λ m. (m ≡ 0) ⊎ (test m ≡ true)) (λ e. inr e) (λ _. greatest_passes test n)

greatest_least : (test : ℕ → Bool) (n k : ℕ) → k ≤ n → test k ≡ true → k ≤ greatest test n
unfolding greatest
greatest_least test zero k low h = omega arith
greatest_least test (suc n) k low h =
    cond_both (test (suc n)) (suc n) (greatest test n) (λ m. k ≤ m) (λ _. low)
    (λ e. ⊎_elim
    (λ (less : k < suc n). greatest_least test n k (omega arith) h)
    (λ (same : k ≡ suc n). absurd (true≢false (sym h ∙ ap test same ∙ e))) (at_or_below k (suc n) low))

-- ---- the steps that are done
done_tells : (limit c : ℕ) (t : State) → is_done limit c t ≡ true → (c + step_cost t ≤ limit) × (is_fault (step_of t) ≡ false)
done_tells limit c t h = go (leb (c + step_cost t) limit) (is_fault (step_of t)) refl refl h
  where
    go : (b f : Bool) → leb (c + step_cost t) limit ≡ b → is_fault (step_of t) ≡ f → cond b (cond f false true) false ≡ true
        → (c + step_cost t ≤ limit) × (is_fault (step_of t) ≡ false)
    go true false e g h = (grind (arith, nat_tests), g)
    go true true e g h = absurd (cc)
    go false f e g h = absurd (cc)

pub done_from : (limit c : ℕ) (t : State) → c + step_cost t ≤ limit → is_fault (step_of t) ≡ false → is_done limit c t ≡ true
done_from limit c t low fine = let test : leb (c + step_cost t) limit ≡ true = grind (arith, nat_tests) in rw (test, fine) refl

-- a step that is done has a state, costs little enough and doesn't fault
pub done_at_tells : (limit c : ℕ) (o : Option State) → is_done_at limit c o ≡ true
    → (t : State) × (o ≡ Some t) × (c + step_cost t ≤ limit) × (is_fault (step_of t) ≡ false)
done_at_tells limit c (Some t) h = let (low, fine) = done_tells limit c t h in (t, refl, low, fine)
done_at_tells limit c None h = absurd (cc)

pub done_at_from : (limit c : ℕ) (o : Option State) (t : State) → o ≡ Some t → c + step_cost t ≤ limit → is_fault (step_of t) ≡ false → is_done_at limit c o ≡ true
done_at_from limit c o t there low fine = ap (is_done_at limit c) there ∙ done_from limit c t low fine

-- the steps before one that is done are done
done_before : (limit : ℕ) (s : State) (k n : ℕ) → is_done_at limit (run_cost s n) (after s n) ≡ true → k ≤ n → is_done_at limit (run_cost s k) (after s k) ≡ true
done_before limit s k n h low =
    ⊎_elim
    (λ (less : k < n).
    let (t, there, cost, fine) = done_at_tells limit (run_cost s n) (after s n) h in
    let (v, reached) = before_end s n t (suc k) there (omega arith) in
    let (u, before, goes) = step_back s k v reached in
    done_at_from limit (run_cost s k) (after s k) u before (omega (arith, spent_next s k u before, spent_grows s (suc k) n (omega arith), cost)) (ap is_fault goes))
    (λ (same : k ≡ n). subst (λ (j : ℕ). is_done_at limit (run_cost s j) (after s j) ≡ true) (sym same) h) (at_or_below k n low)

-- step k is among those that are done exactly where it is done
pub done_in_tells : (limit : ℕ) (s : State) (k : ℕ) → k < done_in limit s → is_done_at limit (run_cost s k) (after s k) ≡ true
done_in_tells limit s k low =
    ⊎_elim (λ none. absurd (omega (arith, low, none))) (from_last (done_in limit s) low) (greatest_passes (is_nth_done limit s) limit)
  where
    from_last : (n : ℕ) → k < n → is_nth_done limit s n ≡ true → is_done_at limit (run_cost s k) (after s k) ≡ true
    from_last zero below h = absurd (omega arith)
    from_last (suc n) below h = done_before limit s k n h (omega arith)

pub done_in_from : (limit : ℕ) (s : State) (k : ℕ) → is_done_at limit (run_cost s k) (after s k) ≡ true → k < done_in limit s
done_in_from limit s k h =
    let (t, there, cost, fine) = done_at_tells limit (run_cost s k) (after s k) h in
    omega (arith, greatest_least (is_nth_done limit s) limit (suc k) (omega (arith, spent_least s k t there, some_cost t, cost)) h)

no_fewer : (limit : ℕ) (s : State) (n : ℕ) → ((k : ℕ) → k < n → is_done_at limit (run_cost s k) (after s k) ≡ true) → n ≤ done_in limit s
no_fewer limit s zero each = omega arith
no_fewer limit s (suc m) each = omega (arith, done_in_from limit s m (each m (omega arith)))

no_more : (limit : ℕ) (s : State) (n : ℕ) → is_done_at limit (run_cost s n) (after s n) ≡ false → done_in limit s ≤ n
no_more limit s n last =
    ⊎_elim (λ t. absurd (true≢false (sym (done_in_tells limit s n (omega (arith, t.1))) ∙ last))) (λ t. omega (arith, t.1)) (leb_tells (suc n) (done_in limit s))

-- there are n of them where those before step n are done, and it isn't
pub done_in_is : (limit : ℕ) (s : State) (n : ℕ) → ((k : ℕ) → k < n → is_done_at limit (run_cost s k) (after s k) ≡ true)
    → is_done_at limit (run_cost s n) (after s n) ≡ false → done_in limit s ≡ n
done_in_is limit s n each last = omega (arith, no_fewer limit s n each, no_more limit s n last)

-- ---- the steps that fit
-- what fits costs little enough and touches few enough pages
pub fits_tells : (l : Limits) (s : State) (n : ℕ) → segment_fits l s n ≡ true → (run_cost s n ≤ l.cycles) × (length (ascending (run_pages s n)) ≤ l.pages)
unfolding segment_fits
fits_tells l s n h =
    let (cost, pages) = and_parts (leb (run_cost s n) l.cycles) (leb (length (ascending (run_pages s n))) l.pages) h in
    (leb-true (run_cost s n) l.cycles cost, leb-true (length (ascending (run_pages s n))) l.pages pages)

pub fits_from : (l : Limits) (s : State) (n : ℕ) → run_cost s n ≤ l.cycles → length (ascending (run_pages s n)) ≤ l.pages → segment_fits l s n ≡ true
unfolding segment_fits
fits_from l s n cost pages = rw (le-leb (run_cost s n) l.cycles cost, le-leb (length (ascending (run_pages s n))) l.pages pages) refl

touched_grows : (s : State) (n : ℕ) → length (ascending (run_pages s n)) ≤ length (ascending (run_pages s (suc n)))
unfolding run_pages
touched_grows s n = ascending_grows (run_pages s n) (pages_at (after s n))

-- no steps fit, and where one more fits, these do
pub fits_none : (l : Limits) (s : State) → segment_fits l s 0 ≡ true
unfolding run_cost run_pages ascending
fits_none l s = fits_from l s 0 (omega arith) (omega arith)

pub fits_less : (l : Limits) (s : State) (n : ℕ) → segment_fits l s (suc n) ≡ true → segment_fits l s n ≡ true
fits_less l s n h =
    let (cost, pages) = fits_tells l s (suc n) h in
    fits_from l s n (omega (arith, cost, spent_grows s n (suc n) (omega arith))) (omega (arith, pages, touched_grows s n))

pub fits_fewer : (l : Limits) (s : State) (k n : ℕ) → k ≤ n → segment_fits l s n ≡ true → segment_fits l s k ≡ true
fits_fewer l s k zero low h = subst (λ (j : ℕ). segment_fits l s j ≡ true) (omega arith) h
fits_fewer l s k (suc n) low h =
    ⊎_elim (λ (less : k < suc n). fits_fewer l s k n (omega arith) (fits_less l s n h))
    (λ (same : k ≡ suc n). subst (λ (j : ℕ). segment_fits l s j ≡ true) (sym same) h) (at_or_below k (suc n) low)

-- ---- the longest stretch
pub longest_low : (l : Limits) (s : State) (n : ℕ) → longest l s n ≤ n
longest_low l s n = greatest_most (segment_fits l s) n

pub longest_fits : (l : Limits) (s : State) (n : ℕ) → segment_fits l s (longest l s n) ≡ true
longest_fits l s n =
    ⊎_elim (λ none. subst (λ (k : ℕ). segment_fits l s k ≡ true) (sym none) (fits_none l s)) (λ h. h) (greatest_passes (segment_fits l s) n)

pub longest_some : (l : Limits) (s : State) (n : ℕ) → 0 < n → segment_fits l s 1 ≡ true → 0 < longest l s n
longest_some l s n some one = omega (arith, greatest_least (segment_fits l s) n 1 (omega (arith, some)) one)

-- a stretch that fits is the longest of at most m steps where it has m, or one more doesn't fit
pub longest_is : (l : Limits) (s : State) (n m : ℕ) → segment_fits l s n ≡ true → n ≤ m → ((n ≡ m) ⊎ (segment_fits l s (suc n) ≡ false)) → longest l s m ≡ n
longest_is l s n m fit low last = omega (arith, greatest_least (segment_fits l s) m n low fit, no_longer last)
  where
    no_longer : (n ≡ m) ⊎ (segment_fits l s (suc n) ≡ false) → longest l s m ≤ n
    no_longer (inl same) = omega (arith, longest_low l s m, same)
    no_longer (inr over) =
        ⊎_elim (λ t. absurd (true≢false (sym (fits_fewer l s (suc n) (longest l s m) t.1 (longest_fits l s m)) ∙ over))) (λ t. omega (arith, t.1))
        (leb_tells (suc n) (longest l s m))

-- ---- the segments, one at a time
pub segments_none : (l : Limits) (most : ℕ) (o : Option State) → segments l most o 0 ≡ []
unfolding segments
segments_none l zero o = refl
segments_none l (suc most) None = refl
segments_none l (suc most) (Some s) = refl

pub segments_some : (l : Limits) (most : ℕ) (s : State) (n : ℕ) → 0 < n
    → segments l (suc most) (Some s) n ≡ longest l s n ∷ segments l most (after s (longest l s n)) (n - longest l s n)
unfolding segments
segments_some l most s n some =
    let test : eqb n 0 ≡ false = grind (arith, nat_tests) in
    ap (λ (b : Bool). cond b [] (longest l s n ∷ segments l most (after s (longest l s n)) (n - longest l s n))) test

-- ---- the seals, one at a time
-- the seal of the stretch of n steps after those given
pub item-seals_from : (H : List ℕ → List ℕ) (s : State) (given : List ℕ) (n : ℕ) (rest : List ℕ) (t : State) → after s (total given) ≡ Some t
    → item (seals_from H (Some s) (given ++ n ∷ rest)) (length given) ≡ Some (seal_from H t n)
unfolding after
item-seals_from H s [] n rest t h = ap (λ (u : State). Some (seal_from H u n)) (same_Some s t h)
item-seals_from H s (m ∷ given) n rest t h =
    let (v, reached) = before_end s (m + total given) t m h (omega arith) in
    ap (λ (o : Option State). item (seals_from H o (given ++ n ∷ rest)) (length given)) reached
    ∙ item-seals_from H v given n rest t (sym (after-add s m (total given) v reached) ∙ h)

-- each stretch has its seal, where the steps of all stretches are there
pub length-seals_from : (H : List ℕ → List ℕ) (s : State) (ns : List ℕ) → AreLengths ns → ((k : ℕ) → k < total ns → (t : State) × (after s k ≡ Some t))
    → length (seals_from H (Some s) ns) ≡ length ns
length-seals_from H s [] good there = refl
length-seals_from H s (n ∷ []) good there = refl
length-seals_from H s (n ∷ m ∷ ns) good there =
    let some : 0 < m = good.1.0 in
    let (v, reached) = there n (omega arith) in
    ap (λ (o : Option State). suc (length (seals_from H o (m ∷ ns)))) reached
    ∙ ap suc (length-seals_from H v (m ∷ ns) good.1 (λ k low. let (t, h) = there (n + k) (omega arith) in (t, sym (after-add s n k v reached) ∙ h)))
