-- What an executor gives, and how it goes on after a cut. H is the digest function.
use Rattle.std.proofs.Common.{◌≡◌, ◌⊎◌, inl, inr, ℕ, ◌+◌, ◌-◌, ◌<◌, ◌≤◌, List, [], ◌∷◌, ◌++◌, length, Option, Some, None, refl, sym, ap, ap₂, ◌∙◌, subst, arith, length-append, append-nil, append_assoc}
use Rattle.page_core.specs.Images.{Image}
use Rattle.page_core.specs.Memory.{ascending}
use Rattle.host_calls.specs.Meters.{Metered, fresh_meter}
use Rattle.rv_step.specs.Machine.{State}
use Rattle.rv_step.specs.Runs.{start, after, run_cost, run_pages, IsOutcome}
use Rattle.rv_step.specs.declared.outcome.Outcome.{Outcome}
use Rattle.std.proofs.lemmas.Option.{same_Some}
use Rattle.rv_step.proofs.Runs.{after-add}
use Rattle.flat_machine.specs.Going.{flat_state, IsRunOf}
use Rattle.executor.specs.Segments.{done_in, segments, lengths, total}
use Rattle.executor.specs.Proving.{run_words}
use Rattle.flat_machine.specs.Following.{HoldsMemory}
use Rattle.executor.specs.Cutting.{Beginning, Cutting, IsBeginning, HasOutcome, IsUnderWay, IsOver, CutsRun, IsWhole, IsCutting}
use Rattle.executor.proofs.Cutting.{fits_none, segments_none}
use Rattle.executor.proofs.Forward.{run_words_are}
use Rattle.executor.proofs.UnderWay.{some_of, went_all}
use Rattle.executor.proofs.Sealed.{cuts_here}

-- ---- where the run has ended and no step is left
pub over : (c : Cutting) (o : Outcome) → c.outcome ≡ Some o → c.steps ≡ 0 → (image : Image) (words : List ℕ) → CutsRun c image words
    → (c.number ≡ length (lengths c.limits (start image words))) × IsOutcome (start image words) c.limits.limit o
over c o told none image words stands = go stands.segment
  where
    go : IsUnderWay (start image words) c ⊎ IsOver (start image words) c → (c.number ≡ length (lengths c.limits (start image words))) × IsOutcome (start image words) c.limits.limit o
    go (inl u) =
        let all : IsOutcome (start image words) c.limits.limit o × (u.place.b + c.steps ≡ done_in c.limits.limit (start image words)) =
        subst (λ (t : Option Outcome). HasOutcome c.limits.limit (start image words) (u.place.b + c.steps) t) told u.outcome in
        let left : done_in c.limits.limit (start image words) - u.place.b ≡ 0 = omega (arith, all.1, none) in
        let cuts : lengths c.limits (start image words) ≡ u.place.given =
        u.place.cuts
        ∙ ap (λ (n : ℕ). u.place.given ++ segments c.limits (done_in c.limits.limit (start image words) - c.number) (Some u.place.s) n) left
        ∙ ap (λ (ns : List ℕ). u.place.given ++ ns) (segments_none c.limits (done_in c.limits.limit (start image words) - c.number) (Some u.place.s))
        ∙ append-nil u.place.given in
        (sym u.place.number ∙ ap length (sym cuts), all.0)
    go (inr o') = (o'.number, subst (λ (t : Outcome). IsOutcome (start image words) c.limits.limit t) (same_Some _ _ (sym o'.told ∙ told)) o'.ends)

-- a segment that is whole and has no step has an outcome
pub has_ended : (r : State) (c : Cutting) (segment : IsUnderWay r c ⊎ IsOver r c) → IsWhole r c segment → c.steps ≡ 0 → (o : Outcome) × (c.outcome ≡ Some o)
has_ended r c (inl u) whole none = some_of c.outcome (whole.ended none)
has_ended r c (inr o) whole none = (o.outcome, o.told)

-- ---- where a segment is whole and has a step
-- it is one of the run's
pub has_more : (c : Cutting) → 1 ≤ c.steps → (image : Image) (words : List ℕ) → (stands : CutsRun c image words) → IsWhole (start image words) c stands.segment → c.number < length (lengths c.limits (start image words))
has_more c some image words stands whole = go stands.segment whole
  where
    go : (segment : IsUnderWay (start image words) c ⊎ IsOver (start image words) c) → IsWhole (start image words) c segment → c.number < length (lengths c.limits (start image words))
    go (inl u) whole =
        let cuts = cuts_here (start image words) c u whole some in
        let rest : List ℕ = segments c.limits (done_in c.limits.limit (start image words) - c.number - 1) (after u.place.s c.steps) (done_in c.limits.limit (start image words) - u.place.b - c.steps) in
        let size : length (lengths c.limits (start image words)) ≡ length u.place.given + length (c.steps ∷ rest) = ap length cuts ∙ length-append u.place.given (c.steps ∷ rest) in
        omega (arith, size, u.place.number)
    go (inr o) whole = absurd (omega (arith, o.steps, some))

-- after its cut
abbrev pub given : Cutting → Beginning → Metered → Cutting
given c at m = record c { number = c.number + 1; beginning = at; steps = 0; meter = m }

total-append : (ns : List ℕ) (n : ℕ) → total (ns ++ n ∷ []) ≡ total ns + n
total-append [] n = omega arith
total-append (k ∷ ns) n = omega (arith, total-append ns n)

module _ (c : Cutting) (at : Beginning) (m : Metered) (some : 1 ≤ c.steps) where
  -- where the run has an outcome, no step is left
  module _ (image : Image) (words : List ℕ) (o : Outcome) (told : c.outcome ≡ Some o) where
    none_left : (segment : IsUnderWay (start image words) c ⊎ IsOver (start image words) c) → IsWhole (start image words) c segment → IsOver (start image words) (given c at m)
    none_left (inl u) whole =
        let all : IsOutcome (start image words) c.limits.limit o × (u.place.b + c.steps ≡ done_in c.limits.limit (start image words)) =
        subst (λ (t : Option Outcome). HasOutcome c.limits.limit (start image words) (u.place.b + c.steps) t) told u.outcome in
        let most : ℕ = done_in c.limits.limit (start image words) - c.number - 1 in
        let left : done_in c.limits.limit (start image words) - u.place.b - c.steps ≡ 0 = omega (arith, all.1) in
        let cuts : lengths c.limits (start image words) ≡ u.place.given ++ c.steps ∷ [] =
        cuts_here (start image words) c u whole some
        ∙ ap (λ (n : ℕ). u.place.given ++ c.steps ∷ segments c.limits most (after u.place.s c.steps) n) left
        ∙ ap (λ (ns : List ℕ). u.place.given ++ c.steps ∷ ns) (segments_none c.limits most (after u.place.s c.steps)) in
        let size : length (u.place.given ++ c.steps ∷ []) ≡ length u.place.given + 1 = length-append u.place.given (c.steps ∷ []) in
        record { number = omega (arith, size, u.place.number, ap length cuts); steps = refl; outcome = o; told = told; ends = all.0 }
    none_left (inr o') whole = absurd (omega (arith, o'.steps, some))

    pub stands_over : (stands : CutsRun c image words) → IsWhole (start image words) c stands.segment → CutsRun (given c at m) image words
    stands_over stands whole = record { run = stands.run; segment = inr (none_left stands.segment whole) }

  -- else the next one begins where the run is
  module _ (untold : c.outcome ≡ None) (on : c.going.halted ≡ None) (pc : at.pc ≡ c.going.pc) (read : at.read ≡ length c.going.read) (memory : HoldsMemory at.tree (flat_state c.going))
      (meter : m ≡ fresh_meter c.meter.cycles c.meter.pages) (image : Image) (words : List ℕ) (run : IsRunOf c.going image words) where
    begins_next : (n : ℕ) → after (start image words) n ≡ Some (flat_state c.going) → IsBeginning (start image words) n (flat_state c.going) at
    begins_next n here =
        let all : words ≡ run_words (start image words) n ++ c.going.words = run_words_are (start image words) n (flat_state c.going) here in
        let sizes : length c.going.read + length c.going.words ≡ length (run_words (start image words) n) + length c.going.words =
        sym (length-append c.going.read c.going.words) ∙ ap length (run.all ∙ all) ∙ length-append (run_words (start image words) n) c.going.words in
        record { pc = pc; read = omega (arith, read, sizes); memory = memory }

    next_under_way : (segment : IsUnderWay (start image words) c ⊎ IsOver (start image words) c) → IsWhole (start image words) c segment → IsUnderWay (start image words) (given c at m)
    unfolding run_cost run_pages ascending
    next_under_way (inl u) whole =
        let r : State = start image words in
        let here : after r (u.place.b + c.steps) ≡ Some (flat_state c.going) = ap (after r) (sym u.steps) ∙ went_all c.going image words run on in
        let next : after u.place.s c.steps ≡ Some (flat_state c.going) = sym (after-add r u.place.b c.steps u.place.s u.place.reached) ∙ here in
        record {
          place = record {
            b = u.place.b + c.steps;
            s = flat_state c.going;
            reached = here;
            given = u.place.given ++ c.steps ∷ [];
            cuts = cuts_here r c u whole some
                ∙ ap (λ (o : Option State). u.place.given ++ c.steps ∷ segments c.limits (done_in c.limits.limit r - c.number - 1) o (done_in c.limits.limit r - u.place.b - c.steps)) next
                ∙ ap₂ (λ (k n : ℕ). u.place.given ++ c.steps ∷ segments c.limits k (Some (flat_state c.going)) n) (omega arith) (omega arith)
                ∙ sym (append_assoc u.place.given (c.steps ∷ []) (segments c.limits (done_in c.limits.limit r - (c.number + 1)) (Some (flat_state c.going)) (done_in c.limits.limit r - (u.place.b + c.steps))));
            number = length-append u.place.given (c.steps ∷ []) ∙ ap (λ (n : ℕ). n + 1) u.place.number;
            at = total-append u.place.given c.steps ∙ ap (λ (n : ℕ). n + c.steps) u.place.at;
            fewer = omega (arith, u.place.fewer, some);
          };
          steps = omega (arith, u.steps);
          within = omega (arith, u.within);
          fits = fits_none c.limits (flat_state c.going);
          beginning = begins_next (u.place.b + c.steps) here;
          cost = ap (λ (x : Metered). x.cost) meter;
          touched = ap (λ (x : Metered). x.touched) meter;
          outcome = subst (λ (t : Option Outcome). HasOutcome c.limits.limit r (u.place.b + c.steps + 0) t) (sym untold) tt;
        }
    next_under_way (inr o) whole = absurd (omega (arith, o.steps, some))

    pub stands_next : (stands : CutsRun c image words) → IsWhole (start image words) c stands.segment → CutsRun (given c at m) image words
    stands_next stands whole = record { run = run; segment = inl (next_under_way stands.segment whole) }

  pub cutting_given : (h : IsCutting c) → CutsRun (given c at m) h.image h.words → m.cycles ≡ c.meter.cycles → m.pages ≡ c.meter.pages → c.number < 65535 → IsCutting (given c at m)
  cutting_given h stands cycles pages low = record {
    image = h.image;
    words = h.words;
    ready = h.ready;
    stands = stands;
    limits = h.limits;
    cycles = cycles ∙ h.cycles;
    pages = pages ∙ h.pages;
    number = omega (arith, low);
    within = h.within;
    halted = h.halted;
  }
