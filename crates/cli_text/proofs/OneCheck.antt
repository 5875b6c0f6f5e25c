-- Words of the checker name at most one job.
use Rattle.std.proofs.Common.{◌≡◌, ℕ, ◌+◌, ◌*◌, List, Ok, Result, length, ap, sym, ◌∙◌, arith}
use Rattle.std.proofs.lemmas.Fmt.{decimal_injective}
use Rattle.hex.specs.Hex.{decode_sized}
use Rattle.cli_text.specs.declared.check_words.CheckJob.{CheckJob}
use Rattle.cli_text.specs.declared.check_words.CheckJob.TheVariants.{Check, CheckInto, Audit, Id, Inspect}
use Rattle.cli_text.specs.CheckWords.{NamesCheck, OneCheckJob}
use Rattle.cli_text.proofs.Commands.{letter}

-- a word tells one id
one_id : {E : Type 0} (read : List ℕ → Result (List ℕ) E) (word word' id id' : List ℕ) → word ≡ word' → read word ≡ Ok id → read word' ≡ Ok id' → id ≡ id'
one_id read word word' id id' same is is' = cc

-- what tells the rows apart: the second letter, and how many words
abbrev row_of : List (List ℕ) → ℕ
row_of words = 8 * letter words + length words

abbrev row : CheckJob → ℕ
row (Check receipt id) = 835
row (CheckInto receipt id journal) = 836
row (Audit receipt entry elf) = 940
row (Id elf) = 802
row (Inspect receipt) = 882

is_row : (words : List (List ℕ)) (job : CheckJob) → NamesCheck words job → row_of words ≡ row job
is_row words (Check receipt id) names = ap row_of names.1
is_row words (CheckInto receipt id journal) names = ap row_of names.1
is_row words (Audit receipt entry elf) names = ap row_of names.0
is_row words (Id elf) names = ap row_of names.0
is_row words (Inspect receipt) names = ap row_of names.0

pub one_job : OneCheckJob
one_job words (Check receipt id) (Check receipt' id') (word, is, _, told) (word', is', _, told') =
    let same : receipt ≡ receipt' = cc in
    let same_id : id ≡ id' = one_id (λ digits. decode_sized digits 32) word word' id id' (cc) told told' in
    λ i. Check (same i) (same_id i)
one_job words (CheckInto receipt id journal) (CheckInto receipt' id' journal') (word, is, _, told, _) (word', is', _, told', _) =
    let same : receipt ≡ receipt' = cc in
    let same_id : id ≡ id' = one_id (λ digits. decode_sized digits 32) word word' id id' (cc) told told' in
    let same_journal : journal ≡ journal' = cc in
    λ i. CheckInto (same i) (same_id i) (same_journal i)
one_job words (Audit receipt entry elf) (Audit receipt' entry' elf') (is, _, fits, _) (is', _, fits', _) =
    let same : receipt ≡ receipt' = cc in
    let same_entry : entry ≡ entry' = decimal_injective entry entry' (omega (arith, fits)) (omega (arith, fits')) (cc) in
    let same_elf : elf ≡ elf' = cc in
    λ i. Audit (same i) (same_entry i) (same_elf i)
one_job words (Id elf) (Id elf') (is, _) (is', _) =
    let same : elf ≡ elf' = cc in
    λ i. Id (same i)
one_job words (Inspect receipt) (Inspect receipt') (is, _) (is', _) =
    let same : receipt ≡ receipt' = cc in
    λ i. Inspect (same i)
one_job words job job' names names' =
    let other : row job ≡ row job' = sym (is_row words job names) ∙ is_row words job' names' in
    absurd (omega (arith, other))
