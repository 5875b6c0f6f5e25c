-- What the words of a command hold.
use Rattle.std.proofs.Common.{◌≡◌, ℕ, ◌<◌, ◌^◌, List, [], ◌∷◌, All, get_or, ap, sym, ◌∙◌, arith}
use Rattle.std.specs.Prelude.{codes, decimal}
use Rattle.std.proofs.lemmas.List.Elements.{All-same}
use Rattle.cli_text.specs.declared.prove_words.ProveJob.TheVariants.{ProveDefault, Prove, Exec, Generate}
use Rattle.rv_step.specs.Limits.{IsCycleLimit, IsPageLimit, IsLimit}
use Rattle.cli_text.specs.Name.{IsName}
use Rattle.cli_text.specs.Values.{AreWorkers, IsSize}
use Rattle.cli_text.specs.ProveWords.{NamesNoProve}

-- the second letter of the first word, which no two commands of a program share
abbrev pub letter : List (List ℕ) → ℕ
letter words = get_or (get_or words 0 []) 1 0

-- no numbers are those of `generate`
pub no_generate : (words : List (List ℕ)) (a b c d e : List ℕ) → words ≡ codes "generate" ∷ a ∷ b ∷ c ∷ d ∷ e ∷ []
    → ((number size cycles pages workers : ℕ) → a ≡ decimal number → b ≡ decimal size → c ≡ decimal cycles → d ≡ decimal pages → e ≡ decimal workers
    → number < 2 ^ 64 → IsSize size → IsCycleLimit cycles → IsPageLimit pages → AreWorkers workers → ⊥)
    → NamesNoProve words
no_generate words a b c d e is none (ProveDefault elf input receipt) names = let other = ap letter (sym is ∙ names.0) in omega (arith, other)
no_generate words a b c d e is none (Prove elf input receipt cycles pages limit workers others) names = let other = ap letter (sym is ∙ names.0) in omega (arith, other)
no_generate words a b c d e is none (Exec elf input limit) names = let other = ap letter (sym is ∙ names.0) in omega (arith, other)
no_generate words a b c d e is none (Generate number size cycles pages workers) (is', fits, sized, cycled, paged, working) =
    none number size cycles pages workers (cc) (cc) (cc) (cc) (cc) fits sized cycled paged working

-- three words after the first are not more
pub no_more : (x y z a x' y' z' : List ℕ) (more : List (List ℕ)) → codes "prove" ∷ x ∷ y ∷ z ∷ a ∷ more ≡ codes "prove" ∷ x' ∷ y' ∷ z' ∷ [] → ⊥
no_more x y z a x' y' z' more e = cc

-- no numbers and no names are those of `prove` with limits
pub no_prove : (words : List (List ℕ)) (x y z a b c d : List ℕ) (rest : List (List ℕ)) → words ≡ codes "prove" ∷ x ∷ y ∷ z ∷ a ∷ b ∷ c ∷ d ∷ rest
    → ((cycles pages limit workers : ℕ) → a ≡ decimal cycles → b ≡ decimal pages → c ≡ decimal limit → d ≡ decimal workers
    → IsCycleLimit cycles → IsPageLimit pages → IsLimit limit → AreWorkers workers → All IsName rest → ⊥)
    → NamesNoProve words
no_prove words x y z a b c d rest is none (ProveDefault elf input receipt) names = no_more x y z a elf input receipt (b ∷ c ∷ d ∷ rest) (sym is ∙ names.0)
no_prove words x y z a b c d rest is none (Prove elf input receipt cycles pages limit workers others) (is', _, _, _, cycled, paged, limited, working, named) =
    none cycles pages limit workers (cc) (cc) (cc) (cc) cycled paged limited working (All-same IsName rest others.items (cc) named)
no_prove words x y z a b c d rest is none (Exec elf input limit) names = let other = ap letter (sym is ∙ names.0) in omega (arith, other)
no_prove words x y z a b c d rest is none (Generate number size cycles pages workers) names = let other = ap letter (sym is ∙ names.0) in omega (arith, other)
