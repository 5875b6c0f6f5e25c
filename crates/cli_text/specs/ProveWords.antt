-- The words of the prover's jobs.
use Rattle.std.specs.Prelude.{◌≡◌, ℕ, ◌<◌, ◌^◌, List, [], ◌∷◌, All, codes, decimal}
use Rattle.cli_text.specs.declared.prove_words.ProveJob.{ProveJob}
use Rattle.cli_text.specs.declared.prove_words.ProveJob.TheVariants.{ProveDefault, Prove, Exec, Generate}
use Rattle.rv_step.specs.Limits.{IsCycleLimit, IsPageLimit, IsLimit}
use Rattle.cli_text.specs.Name.{IsName}
use Rattle.cli_text.specs.Values.{AreWorkers, IsSize}

-- these words name the job: one row a job
abbrev pub NamesProve : List (List ℕ) → ProveJob → Type 0
NamesProve words (ProveDefault elf input receipt) =
    (words ≡ codes "prove" ∷ elf ∷ input ∷ receipt ∷ []) × IsName elf × IsName input × IsName receipt
NamesProve words (Prove elf input receipt cycles pages limit workers others) =
    (words ≡ codes "prove" ∷ elf ∷ input ∷ receipt ∷ decimal cycles ∷ decimal pages ∷ decimal limit ∷ decimal workers ∷ others.items)
    × IsName elf × IsName input × IsName receipt × IsCycleLimit cycles × IsPageLimit pages × IsLimit limit × AreWorkers workers × All IsName others.items
NamesProve words (Exec elf input limit) =
    (words ≡ codes "exec" ∷ elf ∷ input ∷ decimal limit ∷ []) × IsName elf × IsName input × IsLimit limit
NamesProve words (Generate number size cycles pages workers) =
    (words ≡ codes "generate" ∷ decimal number ∷ decimal size ∷ decimal cycles ∷ decimal pages ∷ decimal workers ∷ [])
    × (number < 2 ^ 64) × IsSize size × IsCycleLimit cycles × IsPageLimit pages × AreWorkers workers

-- and these name no job
abbrev pub NamesNoProve : List (List ℕ) → Type 0
NamesNoProve words = (job : ProveJob) → NamesProve words job → ⊥

-- a job, with no more room made in its list of names
abbrev pub without_room : ProveJob → ProveJob
without_room (ProveDefault elf input receipt) = ProveDefault elf input receipt
without_room (Prove elf input receipt cycles pages limit workers others) = Prove elf input receipt cycles pages limit workers (record { items = others.items; spare = 0 })
without_room (Exec elf input limit) = Exec elf input limit
without_room (Generate number size cycles pages workers) = Generate number size cycles pages workers

-- words name at most one job
abbrev pub OneProveJob : Type 0
OneProveJob = (words : List (List ℕ)) (job job' : ProveJob) → NamesProve words job → NamesProve words job' → without_room job ≡ without_room job'
