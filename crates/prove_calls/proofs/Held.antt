-- What files hold whose contents are told: an ELF file loads one image, and an input has one list of words.
use Rattle.std.proofs.Common.{◌≡◌, ℕ, ◌*◌, List, [], ◌++◌, length, ◌⊎◌, Option, Some, inl, inr, sym, ap, subst, ◌∙◌, arith}
use Rattle.outside.specs.Files.{Files}
use Rattle.page_core.specs.Images.{Image}
use Rattle.page_core.proofs.Bytes.{length-words}
use Rattle.elf_image.specs.Loaded.{Loads}
use Rattle.elf_image.proofs.Unique.{one_image}
use Rattle.receipt_codec.proofs.Seals.{one_words}
use Rattle.cli_text.specs.declared.status.Status.{Status}
use Rattle.command_frame.specs.Ends.{Kept}
use Rattle.command_frame.specs.Reading.{IsUnread, HasImage, HasNoImage}
use Rattle.command_frame.proofs.Unread.{read_held, unread_not_held, no_image_not_passes}
use Rattle.command_frame.specs.declared.reading.TheConstants.{MOST_ELF_BYTES, MOST_INPUT_BYTES}
use Rattle.prove_calls.specs.Guest.{IsInput, IsBadInput, HasInput, HasGuest, HasNoGuest, ReadsNone}

-- ---- an ELF file
pub same_image : (elf : List ℕ) (files : Files) (x y : Image) → HasImage elf (Some files) x → HasImage elf (Some files) y → y ≡ x
same_image elf files x y left right =
    let bytes : right.bytes ≡ left.bytes = read_held MOST_ELF_BYTES elf files right.bytes left.bytes right.is_read left.is_read.held in
    one_image left.bytes y x (subst (λ (b : List ℕ). Loads b y) bytes right.loads) left.loads

pub not_no_image : (elf : List ℕ) (files : Files) (image : Image) → HasImage elf (Some files) image → (status : Status) (lines : List ℕ) (kept : Option Kept)
    → HasNoImage elf (Some files) status lines kept → ⊥
not_no_image elf files image has status lines kept none =
    no_image_not_passes elf status lines kept files has.bytes none has.is_read.held has.is_read.within has.loads.passes

-- ---- an input file
long_input : (bytes words : List ℕ) → IsInput bytes words → length bytes ≡ 4 * length words
long_input bytes words input = ap length input.bytes_are ∙ length-words words

one_input : (bytes words others : List ℕ) → IsInput bytes words → IsInput bytes others → others ≡ words
one_input bytes words others x y =
    let long : length others ≡ length words = let one = long_input bytes words x in let two = long_input bytes others y in omega (arith, one, two) in
    (one_words others words [] [] long y.are_words x.are_words (ap (λ (b : List ℕ). b ++ []) (sym y.bytes_are ∙ x.bytes_are))).0

not_bad_input : (bytes words : List ℕ) → IsInput bytes words → (status : Status) (lines : List ℕ) (kept : Option Kept) → IsBadInput bytes status lines kept → ⊥
not_bad_input bytes words input status lines kept bad = bad.not_whole (let long = long_input bytes words input in omega (arith, long))

same_words : (name : List ℕ) (files : Files) (words others : List ℕ) → HasInput name (Some files) words → HasInput name (Some files) others → others ≡ words
same_words name files words others x y =
    let bytes : y.bytes ≡ x.bytes = read_held MOST_INPUT_BYTES name files y.bytes x.bytes y.is_read x.is_read.held in
    one_input x.bytes words others x.is_input (subst (λ (b : List ℕ). IsInput b others) bytes y.is_input)

-- ---- a guest
-- it is the one that the files hold
pub record IsGuest (image other : Image) (words others : List ℕ) : Type 0 where
  pub image_is : other ≡ image
  pub words_are : others ≡ words

pub same_guest : (elf input : List ℕ) (files : Files) (image other : Image) (words others : List ℕ) → HasGuest elf input (Some files) image words → HasGuest elf input (Some files) other others
    → IsGuest image other words others
same_guest elf input files image other words others x y = record {
  image_is = same_image elf files image other x.loads y.loads;
  words_are = same_words input files words others x.reads y.reads;
}

pub not_no_guest : (elf input : List ℕ) (files : Files) (image : Image) (words : List ℕ) → HasGuest elf input (Some files) image words → (status : Status) (lines : List ℕ) (kept : Option Kept)
    → HasNoGuest elf input (Some files) status lines kept → ⊥
not_no_guest elf input files image words has status lines kept (inl none) = not_no_image elf files image has.loads status lines kept none
not_no_guest elf input files image words has status lines kept (inr none) = of_input none.none
  where
    reads : HasInput input (Some files) words
    reads = has.reads

    of_input : IsUnread MOST_INPUT_BYTES input (Some files) status lines kept ⊎ ReadsNone input (Some files) status lines kept → ⊥
    of_input (inl unread) = unread_not_held MOST_INPUT_BYTES input status lines kept files reads.bytes unread reads.is_read.held reads.is_read.within
    of_input (inr bad) =
        let bytes : bad.bytes ≡ reads.bytes = read_held MOST_INPUT_BYTES input files bad.bytes reads.bytes bad.is_read reads.is_read.held in
        not_bad_input reads.bytes words reads.is_input status lines kept (subst (λ (b : List ℕ). IsBadInput b status lines kept) bytes bad.bad)
