-- Other receipts that are told: each name holds one bundle, and an accepted one isn't refused. H is the digest function.
use Rattle.std.proofs.Common.{◌≡◌, ℕ, List, [], ◌∷◌, ◌++◌, length, Option, Some, inl, inr, refl, ap₂, subst}
use Rattle.outside.specs.Files.{Files}
use Rattle.receipt_types.specs.Bundles.{Bundle}
use Rattle.receipt_types.specs.Spelling.{Spells}
use Rattle.check_core.specs.Checked.{RefusesItself}
use Rattle.check_core.proofs.Refusing.{same_bundle, not_refused_itself}
use Rattle.cli_text.specs.declared.status.Status.{Status}
use Rattle.cli_text.specs.declared.status.Status.TheVariants.{Done}
use Rattle.command_frame.specs.Ends.{Kept}
use Rattle.command_frame.specs.declared.reading.TheConstants.{MOST_RECEIPT_BYTES}
use Rattle.prove_calls.specs.Others.{HasOther, HasOthers, NotOther, HasBadOther}
use Rattle.command_frame.proofs.Unread.{read_held, unread_not_held, unread_not_done}
use Rattle.prove_calls.proofs.Done.{not_refused}

module _ (H : List ℕ → List ℕ) (files : Files) where
  same_other : (name : List ℕ) (x y : Bundle) → HasOther H (Some files) name x → HasOther H (Some files) name y → y ≡ x
  same_other name x y left right =
      let bytes : right.bytes ≡ left.bytes = read_held MOST_RECEIPT_BYTES name files right.bytes left.bytes right.is_read left.is_read.held in
      same_bundle left.bytes y x (subst (Spells y) bytes right.spells) left.spells

  pub same_others : (names : List (List ℕ)) (xs ys : List Bundle) → HasOthers H (Some files) names xs → HasOthers H (Some files) names ys → ys ≡ xs
  same_others [] [] [] left right = refl
  same_others [] [] (y ∷ ys) left right = absurd right
  same_others [] (x ∷ xs) ys left right = absurd left
  same_others (name ∷ names) [] ys left right = absurd left
  same_others (name ∷ names) (x ∷ xs) [] left right = absurd right
  same_others (name ∷ names) (x ∷ xs) (y ∷ ys) left right =
      ap₂ (λ (B : Bundle) (Bs : List Bundle). B ∷ Bs) (same_other name x y left.0 right.0) (same_others names xs ys left.1 right.1)

  not_other : (name : List ℕ) (B : Bundle) → HasOther H (Some files) name B → (place : ℕ) (status : Status) (lines : List ℕ) (kept : Option Kept) → NotOther H (Some files) place name status lines kept → ⊥
  not_other name B has place status lines kept (inl unread) = unread_not_held MOST_RECEIPT_BYTES name status lines kept files has.bytes unread has.is_read.held has.is_read.within
  not_other name B has place status lines kept (inr bad) =
      let bytes : bad.bytes ≡ has.bytes = read_held MOST_RECEIPT_BYTES name files bad.bytes has.bytes bad.is_read has.is_read.held in
      not_refused_itself H has.bytes B has.spells has.accepted bad.stop (subst (λ (b : List ℕ). RefusesItself H b bad.stop) bytes bad.refuses) bad.not_memory

  -- the one at a place
  other_at : (before : List (List ℕ)) (name : List ℕ) (after : List (List ℕ)) (bundles : List Bundle) → HasOthers H (Some files) (before ++ name ∷ after) bundles
      → (B : Bundle) × HasOther H (Some files) name B
  other_at [] name after [] all = absurd all
  other_at [] name after (B ∷ bundles) all = (B, all.0)
  other_at (first ∷ before) name after [] all = absurd all
  other_at (first ∷ before) name after (B ∷ bundles) all = other_at before name after bundles all.1

  pub not_bad_other : (names : List (List ℕ)) (bundles : List Bundle) → HasOthers H (Some files) names bundles → (status : Status) (lines : List ℕ) (kept : Option Kept)
      → HasBadOther H (Some files) names status lines kept → ⊥
  not_bad_other names bundles all status lines kept bad =
      let (B, has) = other_at bad.before bad.name bad.after bundles (subst (λ (n : List (List ℕ)). HasOthers H (Some files) n bundles) bad.names_are all) in
      not_other bad.name B has (length bad.before) status lines kept bad.bad

pub bad_other_done : {A : Type 0} (H : List ℕ → List ℕ) (told : Option Files) (names : List (List ℕ)) (lines : List ℕ) (kept : Option Kept) → HasBadOther H told names Done lines kept → A
bad_other_done {A} H told names lines kept bad = of_bad bad.bad
  where
    of_bad : NotOther H told (length bad.before) bad.name Done lines kept → A
    of_bad (inl unread) = absurd (unread_not_done MOST_RECEIPT_BYTES bad.name Done lines kept told unread refl)
    of_bad (inr refused) = not_refused _ lines kept refused.answers
