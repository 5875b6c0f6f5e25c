-- One turn of the walk along the seals of an entry. H is the digest function.
use Rattle.std.proofs.Common.{◌≡◌, ℕ, ◌+◌, ◌<◌, ◌≤◌, true, false, List, [], ◌∷◌, length, drop, get_or, map, Option, Some, None, refl, sym, ap, ◌∙◌, subst, arith}
use Rattle.std.specs.Prelude.{is_some, option_map, IfNone}
use Rattle.std.proofs.lemmas.List.{drop_all}
use Rattle.page_core.specs.Images.{Image}
use Rattle.page_core.specs.Memories.{page_of}
use Rattle.page_core.specs.Stored.{Stored, stored_pages}
use Rattle.part_tree.specs.Part.{root_of, Agree}
use Rattle.part_tree.specs.Splits.{split_of}
use Rattle.part_tree.specs.Tree.{root}
use Rattle.collide.specs.Places.{place_of}
use Rattle.rv_step.specs.Machine.{full}
use Rattle.rv_step.specs.Runs.{start, after}
use Rattle.receipt_types.specs.Limits.{SealLimits, AllSealLimits}
use Rattle.receipt_types.specs.Seals.{Seal, words_of}
use Rattle.receipt_codec.proofs.Written.{limits_at}
use Rattle.check_core.specs.Auditing.{seals_pair}
use Rattle.flat_machine.specs.Going.{Going, flat_state}
use Rattle.audit.specs.declared.disagreement.Disagreement.{Disagreement}
use Rattle.audit.specs.declared.disagreement.Place.TheVariants.{Tree}
use Rattle.audit.specs.Places.{seals_place}
use Rattle.audit.specs.Walking.{GoesThrough, HasGone}
use Rattle.audit.proofs.Earlier.{found_none, found_some, if_none}
use Rattle.audit.proofs.Same.{holds_agree}
use Rattle.audit.proofs.Steps.{turned, within_map, map_within, map_over}
use Rattle.audit.proofs.Walked.{AtSeal, same_root, pair_found, place_found, pair_on, place_on, goes_through, at_next}

module _ {A : Type 0} (H : List ℕ → List ℕ) (image : Image) (value : A → Seal) (items : List A) (k : ℕ) (d : A) (going : Going) (tree : Stored) (seal : Seal)
    (is : seal ≡ value (get_or items k d)) (limits : AllSealLimits (map value items)) (at : AtSeal H image (map value items) k going tree) where
  abbrev seals : List Seal
  seals = map value items

  abbrev rest : List Seal
  rest = drop (k + 1) seals

  here : drop k seals ≡ seal ∷ rest
  here = turned value items k d seal at.low is

  pub limits_here : SealLimits seal
  limits_here = subst SealLimits (sym is) (limits_at value items k d (within_map value items k at.low) limits)

  pub root_here : root_of H seal.tree ≡ root H (stored_pages tree)
  root_here = same_root H image seals k going tree seal rest at here

  module _ (found : Option Disagreement) (pair : option_map (λ (f : Disagreement). f.pair) found ≡ split_of H (stored_pages tree) 18 0 seal.tree)
      (place : option_map (λ (f : Disagreement). f.place) found ≡ option_map (λ (node : ℕ × ℕ). Tree k node.0 node.1) (place_of H (stored_pages tree) 18 0 seal.tree)) where
    -- the seal differs
    pub pair_here : is_some found ≡ true → option_map (λ (f : Disagreement). f.pair) found ≡ seals_pair H (Some (start image (words_of seals))) seals
    pair_here some =
        let (y, e) = found_some (λ (f : Disagreement). f.pair) found some in
        e ∙ sym (pair_found H image seals k going tree seal rest at here y (sym pair ∙ e))

    pub place_here : is_some found ≡ true → option_map (λ (f : Disagreement). f.place) found ≡ seals_place H 0 (Some (start image (words_of seals))) seals
    place_here some =
        let (y, e) = found_some (λ (f : Disagreement). f.place) found some in
        e ∙ sym (place_found H image seals k going tree seal rest at here y (sym place ∙ e))

    -- it doesn't
    module _ (none : is_some found ≡ false) where
      no_pair : split_of H (stored_pages tree) 18 0 seal.tree ≡ None
      no_pair = found_none (λ (f : Disagreement). f.pair) found (split_of H (stored_pages tree) 18 0 seal.tree) pair none

      no_place : option_map (λ (node : ℕ × ℕ). Tree k node.0 node.1) (place_of H (stored_pages tree) 18 0 seal.tree) ≡ None
      no_place = found_none (λ (f : Disagreement). f.place) found (option_map (λ (node : ℕ × ℕ). Tree k node.0 node.1) (place_of H (stored_pages tree) 18 0 seal.tree)) place none

      -- and is the last
      module _ (all : length items ≤ k + 1) where
        over : rest ≡ []
        over = drop_all (k + 1) seals (map_over value items (k + 1) all)

        pub pair_over : None ≡ seals_pair H (Some (start image (words_of seals))) seals
        pair_over = sym (pair_on H image seals k going tree seal rest at here no_pair ∙ ap (seals_pair H (after (flat_state going) seal.steps)) over)

        pub place_over : None ≡ seals_place H 0 (Some (start image (words_of seals))) seals
        place_over = sym (place_on H image seals k going tree seal rest at here no_place ∙ ap (seals_place H (k + 1) (after (flat_state going) seal.steps)) over)

      -- and another one comes
      module _ (more : k + 1 < length items) (agree : IfNone found (Agree H (stored_pages tree) 18 0 seal.tree)) where
        abbrev next : Seal
        next = value (get_or items (k + 1) d)

        there : rest ≡ next ∷ drop (k + 1 + 1) seals
        there = turned value items (k + 1) d next (map_within value items (k + 1) more) refl

        agrees : Agree H (page_of (full (flat_state going))) 18 0 seal.tree
        agrees = holds_agree H tree (flat_state going) at.at.memory seal.tree (if_none found (Agree H (stored_pages tree) 18 0 seal.tree) none agree)

        pub through : length items ≤ 65535 → GoesThrough going tree seal
        through few =
            goes_through H image seals k going tree seal rest at here next (drop (k + 1 + 1) seals) there agrees
            (omega (arith, at.few, limits_here.numbers.few_steps, few, more))

        pub turn_next : (going' : Going) (tree' : Stored) → HasGone going going' tree' seal → AtSeal H image seals (k + 1) going' tree'
        turn_next going' tree' gone =
            at_next H image seals k going tree seal rest at here next (drop (k + 1 + 1) seals) there agrees going' tree' gone no_pair no_place
            (map_within value items (k + 1) more) refl limits_here.numbers.few_steps
