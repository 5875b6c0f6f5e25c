-- Where strings stand in the list of all that are hashed.
use Rattle.std.proofs.Common.{◌≡◌, inl, inr, ℕ, zero, suc, List, [], ◌∷◌, ◌++◌, Option, Some, None, refl, sym, subst, arith}
use Rattle.std.specs.Prelude.{Contains, option_and_then}
use Rattle.std.specs.List.{flat_map}
use Rattle.std.proofs.lemmas.List.Elements.{Contains-append_left, Contains-append_right, Contains-append_cases}
use Rattle.part_tree.specs.Tree.{tree_strings}
use Rattle.part_tree.proofs.Strings.{Contains-one}
use Rattle.host_calls.specs.declared.call.AssumeCall.{AssumeCall}
use Rattle.page_core.specs.Images.{Image}
use Rattle.std.proofs.lemmas.Option.{same_Some}
use Rattle.page_core.specs.Memories.{page_of}
use Rattle.claim_types.specs.declared.state.State.{State as SystemState}
use Rattle.claim_types.specs.States.{state_string, halted_state, image_string}
use Rattle.claim_types.specs.Claims.{SpanClaim, resolved_output, conditional_output, claim_string, conditional_string, assumption_cells}
use Rattle.lift_join.specs.Joins.{chain_of}
use Rattle.receipt_types.specs.Bundles.{Entry, Bundle, item, IsEntry, AreEntries}
use Rattle.check_core.specs.Entries.{first_of, first_at, claim_in}
use Rattle.check_core.specs.Hashed.{seal_strings, ok_strings, claim_strings, entry_strings, tag_names, strings_of, compared_oks, compared_claim, compared_entry, compared_strings}
use Rattle.check_core.specs.Laws.{ComparedAreHashed}

-- ---- the value of a call on an option
inside : {A B : Type 0} (f : A → Option B) (o : Option A) (y : B) → option_and_then f o ≡ Some y → (x : A) × (o ≡ Some x) × (f x ≡ Some y)
inside f (Some x) y h = (x, refl, h)
inside f None y h = absurd (cc)

pub first_entry : (H : List ℕ → List ℕ) (B : Bundle) (e : ℕ) (first : SystemState) → first_at H B e ≡ Some first
    → (entry : Entry) × (item B e ≡ Some entry) × (first_of H entry.seals ≡ Some first)
first_entry H B e first h = inside (λ (entry : Entry). first_of H entry.seals) (item B e) first h

pub claim_entry : (H : List ℕ → List ℕ) (B : Bundle) (e : ℕ) (claim : SpanClaim) → claim_in H B e ≡ Some claim
    → (entry : Entry) × (item B e ≡ Some entry) × (chain_of H entry.seals ≡ Some claim)
claim_entry H B e claim h = inside (λ (entry : Entry). chain_of H entry.seals) (item B e) claim h

pub entry_at : (entries : List Entry) (e : ℕ) (entry : Entry) → AreEntries entries → item entries e ≡ Some entry → IsEntry entry
entry_at [] e entry good h = absurd (cc)
entry_at (x ∷ entries) zero entry good h = subst (λ (y : Entry). IsEntry y) (same_Some x entry h) good.0
entry_at (x ∷ entries) (suc e) entry good h = entry_at entries e entry good.1 h

-- ---- in the list
in_entries : (f : Entry → List (List ℕ)) (entries : List Entry) (e : ℕ) (entry : Entry) → item entries e ≡ Some entry → (x : List ℕ) → Contains (f entry) x → Contains (flat_map f entries) x
in_entries f [] e entry h x c = absurd (cc)
in_entries f (y ∷ entries) zero entry h x c =
    Contains-append_left (f y) (flat_map f entries) x (subst (λ (z : Entry). Contains (f z) x) (sym (same_Some y entry h)) c)
in_entries f (y ∷ entries) (suc e) entry h x c = Contains-append_right (f y) (flat_map f entries) x (in_entries f entries e entry h x c)

module _ (H : List ℕ → List ℕ) (B : Bundle) (image : Image) where
  -- what follows the strings of the entries
  abbrev of_image : List (List ℕ)
  of_image = tree_strings H (page_of image.memory) 18 0 ++ (image_string H image ∷ [])

  pub tree_in : (x : List ℕ) → Contains (tree_strings H (page_of image.memory) 18 0) x → Contains (compared_strings H B image) x
  tree_in x c =
      Contains-append_right (flat_map (compared_entry H) B) of_image x (Contains-append_left (tree_strings H (page_of image.memory) 18 0) (image_string H image ∷ []) x c)

  pub image_in : Contains (compared_strings H B image) (image_string H image)
  image_in =
      Contains-append_right (flat_map (compared_entry H) B) of_image (image_string H image)
      (Contains-append_right (tree_strings H (page_of image.memory) 18 0) (image_string H image ∷ []) (image_string H image) (0, omega arith, refl))

  module _ (e : ℕ) (entry : Entry) (is_entry : item B e ≡ Some entry) where
    entry_in : (x : List ℕ) → Contains (compared_entry H entry) x → Contains (compared_strings H B image) x
    entry_in x c = Contains-append_left (flat_map (compared_entry H) B) of_image x (in_entries (compared_entry H) B e entry is_entry x c)

    pub seals_in : (x : List ℕ) → Contains (flat_map (seal_strings H) entry.seals) x → Contains (compared_strings H B image) x
    seals_in x c = entry_in x (Contains-append_left (flat_map (seal_strings H) entry.seals) (compared_claim H (chain_of H entry.seals)) x c)

    module _ (claim : SpanClaim) (chain : chain_of H entry.seals ≡ Some claim) where
      claim_in_all : (x : List ℕ) → Contains (compared_claim H (Some claim)) x → Contains (compared_strings H B image) x
      claim_in_all x c =
          entry_in x
          (Contains-append_right (flat_map (seal_strings H) entry.seals) (compared_claim H (chain_of H entry.seals)) x
          (subst (λ (o : Option SpanClaim). Contains (compared_claim H o) x) (sym chain) c))

      pub before_in : Contains (compared_strings H B image) (state_string H claim.before)
      before_in = claim_in_all (state_string H claim.before) (0, omega arith, refl)

      pub output_in : Contains (compared_strings H B image) (resolved_output H claim)
      output_in = claim_in_all (resolved_output H claim) (1, omega arith, refl)

      pub string_in : Contains (compared_strings H B image) (claim_string H claim)
      string_in = claim_in_all (claim_string H claim) (2, omega arith, refl)

      pub oks_in : (x : List ℕ) → Contains (flat_map (compared_oks H) claim.calls) x → Contains (compared_strings H B image) x
      oks_in x c =
          claim_in_all x
          (Contains-append_right (state_string H claim.before ∷ resolved_output H claim ∷ claim_string H claim ∷ []) (flat_map (compared_oks H) claim.calls) x c)

-- ---- what is compared is hashed
abbrev Among : List (List ℕ) → List (List ℕ) → Type 0
Among xs ys = (x : List ℕ) → Contains xs x → Contains ys x

both_among : (ws bs cs ds : List (List ℕ)) → Among ws cs → Among bs ds → Among (ws ++ bs) (cs ++ ds)
both_among ws bs cs ds h k x c = elim (Contains-append_cases ws bs x c) [ inl l ↦ Contains-append_left cs ds x (h x l) | inr r ↦ Contains-append_right cs ds x (k x r) ]

one_among : (y : List ℕ) (ys : List (List ℕ)) → Contains ys y → Among (y ∷ []) ys
one_among y ys c x d = subst (λ (z : List ℕ). Contains ys z) (Contains-one y x d) c

each_among : (y : List ℕ) (ys zs : List (List ℕ)) → Contains zs y → Among ys zs → Among (y ∷ ys) zs
each_among y ys zs c h x d = elim (Contains-append_cases (y ∷ []) ys x d) [ inl l ↦ one_among y zs c x l | inr r ↦ h x r ]

module _ (H : List ℕ → List ℕ) where
  oks_among : (calls : List AssumeCall) → Among (flat_map (compared_oks H) calls) (flat_map (ok_strings H) calls)
  oks_among [] = λ x c. c
  oks_among (call ∷ calls) =
      both_among (compared_oks H call) (flat_map (compared_oks H) calls) (ok_strings H call) (flat_map (ok_strings H) calls)
      (λ x c. Contains-append_left (compared_oks H call) (state_string H halted_state ∷ []) x c) (oks_among calls)

  claim_among : (o : Option SpanClaim) → Among (compared_claim H o) (claim_strings H o)
  claim_among None = λ x c. c
  claim_among (Some claim) =
      let mine = claim_strings H (Some claim) in
      each_among (state_string H claim.before) (resolved_output H claim ∷ claim_string H claim ∷ flat_map (compared_oks H) claim.calls) mine (0, omega arith, refl)
      (each_among (resolved_output H claim) (claim_string H claim ∷ flat_map (compared_oks H) claim.calls) mine (3, omega arith, refl)
      (each_among (claim_string H claim) (flat_map (compared_oks H) claim.calls) mine (5, omega arith, refl)
      (λ x c.
      Contains-append_right
      (state_string H claim.before ∷ state_string H claim.after ∷ claim.journal
      ∷ resolved_output H claim ∷ conditional_output H claim ∷ claim_string H claim ∷ conditional_string H claim ∷ [])
      (assumption_cells H claim.calls ++ flat_map (ok_strings H) claim.calls) x
      (Contains-append_right (assumption_cells H claim.calls) (flat_map (ok_strings H) claim.calls) x (oks_among claim.calls x c)))))

  entries_among : (entries : List Entry) → Among (flat_map (compared_entry H) entries) (flat_map (entry_strings H) entries)
  entries_among [] = λ x c. c
  entries_among (entry ∷ entries) =
      both_among (compared_entry H entry) (flat_map (compared_entry H) entries) (entry_strings H entry) (flat_map (entry_strings H) entries)
      (both_among (flat_map (seal_strings H) entry.seals) (compared_claim H (chain_of H entry.seals)) (flat_map (seal_strings H) entry.seals) (claim_strings H (chain_of H entry.seals))
      (λ x c. c) (claim_among (chain_of H entry.seals)))
      (entries_among entries)

  pub compared_are_hashed : ComparedAreHashed H
  compared_are_hashed B image =
      both_among (flat_map (compared_entry H) B) (tree_strings H (page_of image.memory) 18 0 ++ (image_string H image ∷ [])) (strings_of H B) (tree_strings H (page_of image.memory) 18 0 ++ (image_string H image ∷ []))
      (λ x c. Contains-append_left (flat_map (entry_strings H) B) tag_names x (entries_among B x c)) (λ x c. c)
