-- The words of the checker's jobs.
use Rattle.std.specs.Prelude.{◌≡◌, ℕ, ◌<◌, ◌^◌, List, [], ◌∷◌, codes, decimal}
use Rattle.cli_text.specs.declared.check_words.CheckJob.{CheckJob}
use Rattle.cli_text.specs.declared.check_words.CheckJob.TheVariants.{Check, CheckInto, Audit, Id, Inspect}
use Rattle.cli_text.specs.Name.{IsName}
use Rattle.cli_text.specs.Values.{IsId}

-- these words name the job: one row a job
abbrev pub NamesCheck : List (List ℕ) → CheckJob → Type 0
NamesCheck words (Check receipt id) = (digits : List ℕ) × (words ≡ codes "check" ∷ receipt ∷ digits ∷ []) × IsName receipt × IsId digits id
NamesCheck words (CheckInto receipt id journal) = (digits : List ℕ) × (words ≡ codes "check" ∷ receipt ∷ digits ∷ journal ∷ []) × IsName receipt × IsId digits id × IsName journal
NamesCheck words (Audit receipt entry elf) = (words ≡ codes "audit" ∷ receipt ∷ decimal entry ∷ elf ∷ []) × IsName receipt × (entry < 2 ^ 16) × IsName elf
NamesCheck words (Id elf) = (words ≡ codes "id" ∷ elf ∷ []) × IsName elf
NamesCheck words (Inspect receipt) = (words ≡ codes "inspect" ∷ receipt ∷ []) × IsName receipt

-- and these name no job
abbrev pub NamesNoCheck : List (List ℕ) → Type 0
NamesNoCheck words = (job : CheckJob) → NamesCheck words job → ⊥

-- words name at most one job
abbrev pub OneCheckJob : Type 0
OneCheckJob = (words : List (List ℕ)) (job job' : CheckJob) → NamesCheck words job → NamesCheck words job' → job ≡ job'
