-- Words of the prover name at most one job.
use Rattle.std.proofs.Common.{◌≡◌, ℕ, List, ◌∷◌, ap, sym, ◌∙◌, arith}
use Rattle.std.specs.Prelude.{decimal}
use Rattle.std.proofs.lemmas.Fmt.{decimal_injective}
use Rattle.cli_text.specs.declared.prove_words.ProveJob.{ProveJob}
use Rattle.cli_text.specs.declared.prove_words.ProveJob.TheVariants.{ProveDefault, Prove, Exec, Generate}
use Rattle.cli_text.specs.ProveWords.{NamesProve, OneProveJob}
use Rattle.cli_text.proofs.Commands.{letter, no_more}

-- the letter of a job's command
abbrev command : ProveJob → ℕ
command (ProveDefault elf input receipt) = 114
command (Prove elf input receipt cycles pages limit workers others) = 114
command (Exec elf input limit) = 120
command (Generate number size cycles pages workers) = 101

is_command : (words : List (List ℕ)) (job : ProveJob) → NamesProve words job → letter words ≡ command job
is_command words (ProveDefault elf input receipt) names = ap letter names.0
is_command words (Prove elf input receipt cycles pages limit workers others) names = ap letter names.0
is_command words (Exec elf input limit) names = ap letter names.0
is_command words (Generate number size cycles pages workers) names = ap letter names.0

pub one_job : OneProveJob
one_job words (ProveDefault elf input receipt) (ProveDefault elf' input' receipt') (is, _, _, _) (is', _, _, _) =
    let same : elf ≡ elf' = cc in
    let same_input : input ≡ input' = cc in
    let same_receipt : receipt ≡ receipt' = cc in
    λ i. ProveDefault (same i) (same_input i) (same_receipt i)
one_job words (ProveDefault elf input receipt) (Prove elf' input' receipt' cycles pages limit workers others) names names' =
    absurd (no_more elf' input' receipt' (decimal cycles) elf input receipt (decimal pages ∷ decimal limit ∷ decimal workers ∷ others.items) (sym names'.0 ∙ names.0))
one_job words (Prove elf' input' receipt' cycles pages limit workers others) (ProveDefault elf input receipt) names' names =
    absurd (no_more elf' input' receipt' (decimal cycles) elf input receipt (decimal pages ∷ decimal limit ∷ decimal workers ∷ others.items) (sym names'.0 ∙ names.0))
one_job words (Prove elf input receipt cycles pages limit workers others) (Prove elf' input' receipt' cycles' pages' limit' workers' others')
    (is, _, _, _, cycled, paged, limited, working, _) (is', _, _, _, cycled', paged', limited', working', _) =
    let same : elf ≡ elf' = cc in
    let same_input : input ≡ input' = cc in
    let same_receipt : receipt ≡ receipt' = cc in
    let same_cycles : cycles ≡ cycles' = decimal_injective cycles cycles' (omega (arith, cycled)) (omega (arith, cycled')) (cc) in
    let same_pages : pages ≡ pages' = decimal_injective pages pages' (omega (arith, paged)) (omega (arith, paged')) (cc) in
    let same_limit : limit ≡ limit' = decimal_injective limit limit' (omega (arith, limited)) (omega (arith, limited')) (cc) in
    let same_workers : workers ≡ workers' = decimal_injective workers workers' (omega (arith, working)) (omega (arith, working')) (cc) in
    let same_others : others.items ≡ others'.items = cc in
    λ i. Prove (same i) (same_input i) (same_receipt i) (same_cycles i) (same_pages i) (same_limit i) (same_workers i) (record { items = same_others i; spare = 0 })
one_job words (Exec elf input limit) (Exec elf' input' limit') (is, _, _, limited) (is', _, _, limited') =
    let same : elf ≡ elf' = cc in
    let same_input : input ≡ input' = cc in
    let same_limit : limit ≡ limit' = decimal_injective limit limit' (omega (arith, limited)) (omega (arith, limited')) (cc) in
    λ i. Exec (same i) (same_input i) (same_limit i)
one_job words (Generate number size cycles pages workers) (Generate number' size' cycles' pages' workers')
    (is, fits, sized, cycled, paged, working) (is', fits', sized', cycled', paged', working') =
    let same : number ≡ number' = decimal_injective number number' fits fits' (cc) in
    let same_size : size ≡ size' = decimal_injective size size' (omega (arith, sized)) (omega (arith, sized')) (cc) in
    let same_cycles : cycles ≡ cycles' = decimal_injective cycles cycles' (omega (arith, cycled)) (omega (arith, cycled')) (cc) in
    let same_pages : pages ≡ pages' = decimal_injective pages pages' (omega (arith, paged)) (omega (arith, paged')) (cc) in
    let same_workers : workers ≡ workers' = decimal_injective workers workers' (omega (arith, working)) (omega (arith, working')) (cc) in
    λ i. Generate (same i) (same_size i) (same_cycles i) (same_pages i) (same_workers i)
one_job words job job' names names' =
    let other : command job ≡ command job' = sym (is_command words job names) ∙ is_command words job' names' in
    absurd (omega (arith, other))
