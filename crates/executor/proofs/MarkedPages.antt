-- The pages of a segment and their marks.
use Rattle.std.proofs.Common.{◌≡◌, ℕ, ◌+◌, ◌-◌, ◌<◌, ◌≤◌, Bool, true, false, ◌||◌, ◌&&◌, leb, ltb, eqb, List, [], ◌++◌, length, get_or, replicate, None, Result, Ok, Err, IsOk, OnOk, sym, ap, ap₂, ◌∙◌, arith, ⊎_elim}
use Rattle.std.proofs.Math.Bool.{or_comm}
use Rattle.std.proofs.lemmas.Bool.{true≢false, false≢true, false_from_ne_true, and_parts, leb-true, le-leb}
use Rattle.std.proofs.lemmas.Bool.Decides.{nat_tests, leb_tells}
use Rattle.std.proofs.lemmas.List.{length-replicate, get_or_past}
use Rattle.std.proofs.lemmas.List.Folds.{list_any-append}
use Rattle.page_core.specs.Memory.{is_among, ascending}
use Rattle.page_core.proofs.Ascending.{is_among-ascending}
use Rattle.page_core.proofs.Listed.{Contains-from_is_among}
use Rattle.page_core.proofs.Zeros.{get_or-same}
use Rattle.host_calls.specs.Meters.{Metered, has_room}
use Rattle.rv_step.specs.Machine.{first_closed}
use Rattle.rv_step.proofs.Steps.{all_open}
use Rattle.executor.specs.Marked.{AreMarksOf}

-- ---- marks
-- no page has a mark
pub none_marked : (pages : List ℕ) (marks : List Bool) → pages ≡ [] → marks ≡ replicate 262144 false → AreMarksOf pages marks
none_marked pages marks none is = record {
  size = ap length is ∙ length-replicate 262144 false;
  exact = λ page. ap (λ (ms : List Bool). get_or ms page false) is ∙ get_or-same 262144 page false ∙ ap (λ (ps : List ℕ). is_among ps page) (sym none);
}

-- a page that has a mark is one of a memory
pub marked_below : (pages : List ℕ) (marks : List Bool) → AreMarksOf pages marks → (page : ℕ) → is_among pages page ≡ true → page < 262144
marked_below pages marks h page there =
    ⊎_elim (λ t. absurd (false≢true (sym (get_or_past marks page false (omega (arith, h.size, t.1))) ∙ h.exact page ∙ there))) (λ t. omega (arith, t.1)) (leb_tells 262144 page)

-- as those of a footprint are
foot_below : (foot : List ℕ) → first_closed (λ page. ltb page 262144) foot ≡ None → (page : ℕ) → is_among foot page ≡ true → page < 262144
foot_below foot below page there =
    let test : ltb page 262144 ≡ true = all_open (λ p. ltb p 262144) foot below page (Contains-from_is_among foot page there) in
    grind (arith, nat_tests)

-- the marks of a footprint besides
module _ (pages foot more : List ℕ) (marks now : List Bool) (h : AreMarksOf pages marks) (below : first_closed (λ page. ltb page 262144) foot ≡ None) (size : length now ≡ length marks)
    (each : (p : ℕ) → p < length marks → get_or now p false ≡ (get_or marks p false || is_among foot p)) (is : more ≡ ascending (foot ++ pages)) where
  members : (page : ℕ) → is_among more page ≡ (is_among pages page || is_among foot page)
  members page =
      ap (λ (ps : List ℕ). is_among ps page) is ∙ is_among-ascending (foot ++ pages) page ∙ list_any-append (eqb page) foot pages
      ∙ or_comm (is_among foot page) (is_among pages page)

  exact : (page : ℕ) → get_or now page false ≡ is_among more page
  exact page =
      ⊎_elim
      (λ t. let out : is_among pages page ≡ false = false_from_ne_true _ (λ e. omega (arith, t.1, marked_below pages marks h page e)) in
      let off : is_among foot page ≡ false = false_from_ne_true _ (λ e. omega (arith, t.1, foot_below foot below page e)) in
      get_or_past now page false (omega (arith, size, h.size, t.1)) ∙ sym (members page ∙ ap₂ (λ a b. a || b) out off))
      (λ t. each page (omega (arith, h.size, t.1)) ∙ ap (λ b. b || is_among foot page) (h.exact page) ∙ sym (members page))
      (leb_tells 262144 page)

  pub more_marked : AreMarksOf more now
  more_marked = record { size = size ∙ h.size; exact = exact }

-- ---- a meter of pages, and the cost beside it
abbrev pub beside : ℕ → ℕ → Metered → Metered
beside cycles cost m = record { cycles = cycles; pages = m.pages; cost = cost; touched = m.touched }

free_room : (m : Metered) → m.cost ≡ 0 → leb (m.cost + 0) m.cycles ≡ true
free_room m free = le-leb (m.cost + 0) m.cycles (omega (arith, free))

-- a step has room where its cost and its pages have
pub room_of : (cycles cost foot_cost : ℕ) (foot : List ℕ) (m : Metered) → cost ≤ cycles → m.cost ≡ 0
    → (leb foot_cost (cycles - cost) && has_room foot 0 m) ≡ has_room foot foot_cost (beside cycles cost m)
room_of cycles cost foot_cost foot m within free =
    let fits : leb foot_cost (cycles - cost) ≡ leb (cost + foot_cost) cycles = grind (arith, nat_tests) in
    ap₂ (λ a b. a && (b && leb (length (ascending (foot ++ m.touched))) m.pages)) fits (free_room m free)

pub room_parts : (cycles cost foot_cost : ℕ) (foot : List ℕ) (m : Metered) → m.cost ≡ 0 → has_room foot foot_cost (beside cycles cost m) ≡ true
    → (cost + foot_cost ≤ cycles) × (has_room foot 0 m ≡ true)
room_parts cycles cost foot_cost foot m free room =
    let (low, few) = and_parts (leb (cost + foot_cost) cycles) (leb (length (ascending (foot ++ m.touched))) m.pages) room in
    (leb-true (cost + foot_cost) cycles low, ap₂ (λ a b. a && b) (free_room m free) few)

-- what an answer tells with Ok, where it is Ok
pub on_ok : {X E : Type 0} (r : Result X E) (P : Type 0) → IsOk r → OnOk r P → P
on_ok (Ok x) P h p = p
on_ok (Err e) P h p = absurd (true≢false (sym h))
