-- The other receipts that were read, one after the other. H is the digest function.
use Rattle.std.proofs.Common.{◌≡◌, ℕ, ◌+◌, ◌<◌, ◌≤◌, List, [], ◌∷◌, ◌++◌, length, take, drop, get_or, ◌≢◌, Option, Result, inr, sym, ap, subst, ◌∙◌}
use Rattle.std.specs.List.{AllZip}
use Rattle.std.proofs.lemmas.List.{map-append, take_more, take_all, take-append-drop, drop_more, length-map}
use Rattle.std.proofs.lemmas.Slice.Zip.{AllZip-long}
use Rattle.outside.specs.Files.{Files}
use Rattle.cli_text.specs.declared.status.Status.{Status}
use Rattle.receipt_types.specs.Bundles.{Bundle}
use Rattle.check_core.specs.Checked.{Checked, RefusesItself}
use Rattle.check_core.specs.declared.stop.CheckStop.{CheckStop}
use Rattle.check_core.specs.declared.stop.CheckStop.TheVariants.{Memory as NoRoom}
use Rattle.resolve.specs.Resolving.{bundles_of}
use Rattle.command_frame.specs.declared.end.End.{End}
use Rattle.command_frame.specs.declared.end.Answer.{Answer}
use Rattle.command_frame.specs.Ends.{Kept, HasCause, IsEnded, end_of}
use Rattle.command_frame.specs.Reading.{IsRead}
use Rattle.command_frame.specs.declared.reading.TheConstants.{MOST_RECEIPT_BYTES}
use Rattle.command_frame.proofs.Causes.{cause_wider}
use Rattle.prove_calls.specs.Others.{HasOther, HasOthers, NotOther, HasBadOther, TellsBadReceipt}

zip_more : {A B : Type 0} (R : A → B → Type 0) (xs : List A) (ys : List B) (x : A) (y : B) → AllZip R xs ys → R x y → AllZip R (xs ++ x ∷ []) (ys ++ y ∷ [])
zip_more R [] [] x y all one = (one, tt)
zip_more R [] (b ∷ ys) x y all one = absurd all
zip_more R (a ∷ xs) [] x y all one = absurd all
zip_more R (a ∷ xs) (b ∷ ys) x y all one = (all.0, zip_more R xs ys x y all.1 one)

module _ (H : List ℕ → List ℕ) (told : Option Files) (names : List (List ℕ)) (i : ℕ) (d name : List ℕ) (low : i < length names) (is : name ≡ get_or names i d) where
  more : take (i + 1) names ≡ take i names ++ name ∷ []
  more = take_more names i d low ∙ ap (λ (n : List ℕ). take i names ++ n ∷ []) (sym is)

  parts : names ≡ take i names ++ name ∷ drop (i + 1) names
  parts = sym (take-append-drop i names) ∙ ap (λ (l : List (List ℕ)). take i names ++ l) (drop_more names i d low ∙ ap (λ (n : List ℕ). n ∷ drop (i + 1) names) (sym is))

  -- one more was read
  pub others_more : (read : List Checked) (other : Checked) → HasOthers H told (take i names) (bundles_of read) → HasOther H told name other.bundle
      → HasOthers H told (take (i + 1) names) (bundles_of (read ++ other ∷ []))
  others_more read other all one =
      subst (λ (bundles : List Bundle). HasOthers H told (take (i + 1) names) bundles) (sym (map-append (λ o. o.bundle) read (other ∷ [])))
      (subst (λ (n : List (List ℕ)). HasOthers H told n (bundles_of read ++ other.bundle ∷ [])) (sym more)
      (zip_more (λ n B. HasOther H told n B) (take i names) (bundles_of read) name other.bundle all one))

  -- the next isn't accepted
  one_bad : (read : List Checked) (place : ℕ) → place ≡ length read → HasOthers H told (take i names) (bundles_of read) → (status : Status) (lines : List ℕ) (kept : Option Kept)
      → NotOther H told place name status lines kept → HasBadOther H told names status lines kept
  one_bad read place at all status lines kept bad =
      let here : place ≡ length (take i names) = at ∙ sym (length-map read (λ o. o.bundle)) ∙ AllZip-long (λ n B. HasOther H told n B) (take i names) (bundles_of read) all in
      record {
        before = take i names;
        name = name;
        after = drop (i + 1) names;
        names_are = parts;
        bundles = bundles_of read;
        accepted = all;
        bad = subst (λ (p : ℕ). NotOther H told p name status lines kept) here bad;
      }

  pub others_bad : (read : List Checked) (place : ℕ) → place ≡ length read → HasOthers H told (take i names) (bundles_of read) → (end : End) → HasCause (NotOther H told place name) end
      → HasCause (HasBadOther H told names) end
  others_bad read place at all end cause = cause_wider (NotOther H told place name) (HasBadOther H told names) (one_bad read place at all) end cause

-- all were read
pub others_all : (H : List ℕ → List ℕ) (told : Option Files) (names : List (List ℕ)) (i : ℕ) → length names ≤ i → (read : List Checked) → HasOthers H told (take i names) (bundles_of read)
    → HasOthers H told names (bundles_of read)
others_all H told names i all read has = subst (λ (ns : List (List ℕ)). HasOthers H told ns (bundles_of read)) (take_all i names all) has

-- a receipt that is read and refused
pub refused_other : (H : List ℕ → List ℕ) (told : Option Files) (place : ℕ) (name bytes : List ℕ) → IsRead MOST_RECEIPT_BYTES name told bytes → (stop : CheckStop) → RefusesItself H bytes stop → stop ≢ NoRoom
    → (outcome : Result Answer End) (end : End) → end ≡ end_of outcome → IsEnded (TellsBadReceipt place stop) outcome → HasCause (NotOther H told place name) end
refused_other H told place name bytes read stop refuses not_memory outcome end is tells =
    cause_wider (TellsBadReceipt place stop) (NotOther H told place name)
    (λ status lines kept answers. inr (record { bytes = bytes; is_read = read; stop = stop; refuses = refuses; not_memory = not_memory; answers = answers })) end
    (subst (HasCause (TellsBadReceipt place stop)) (sym is) tells)
