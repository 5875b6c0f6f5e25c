-- The marks of the pages that a replay touched.
use Rattle.std.proofs.Common.{◌≡◌, ℕ, ◌<◌, Bool, false, not, cond, ◌||◌, eqb, List, [], ◌∷◌, ◌++◌, get_or, length, replicate, Option, Some, refl, sym, ap, ap₂, ◌∙◌}
use Rattle.page_core.specs.Memory.{is_among}
use Rattle.page_core.proofs.Listed.{Contains-head, Contains-tail}
use Rattle.page_core.proofs.Zeros.{get_or-same}
use Rattle.std.specs.Prelude.{Contains}
use Rattle.std.proofs.lemmas.List.Folds.{list_any-append}
use Rattle.rv_step.specs.Machine.{first_closed}
use Rattle.seal_replay.specs.Replaying.{AreMarked, AreAlsoMarked}

-- at first none is marked
pub none_marked : (opened : List ℕ) (n : ℕ) → AreMarked opened (replicate n false) []
none_marked opened n p h = get_or-same n p false

-- a footprint is marked besides
pub also_marked : (opened : List ℕ) (before after : List Bool) (pages foot : List ℕ) → ((p : ℕ) → Contains opened p → p < length before)
    → AreMarked opened before pages → AreAlsoMarked before after foot → AreMarked opened after (pages ++ foot)
also_marked opened before after pages foot within marked more p h =
    more p (within p h) ∙ ap (λ b. b || is_among foot p) (marked p h) ∙ sym (list_any-append (eqb p) pages foot)

-- ---- the least open page that is in no footprint
closed_same : (f g : ℕ → Bool) (qs : List ℕ) → ((p : ℕ) → Contains qs p → f p ≡ g p) → first_closed f qs ≡ first_closed g qs
closed_same f g [] same = refl
closed_same f g (q ∷ qs) same =
    ap₂ (λ (b : Bool) (o : Option ℕ). cond (not b) (Some q) o) (same q (Contains-head q q qs refl)) (closed_same f g qs (λ p h. same p (Contains-tail p q qs h)))

pub idle_same : (opened : List ℕ) (marks : List Bool) (touched : List ℕ) → AreMarked opened marks touched
    → first_closed (λ p. get_or marks p false) opened ≡ first_closed (is_among touched) opened
idle_same opened marks touched marked = closed_same _ _ opened marked
