-- Seals: a stretch of a run with a part tree of its memory.
use Rattle.std.specs.Prelude.{◌≡◌, ℕ, ◌+◌, ◌%◌, ◌^◌, ◌<◌, List, [], ◌∷◌, ◌++◌}
use Rattle.std.specs.Coded.{Coded, code_by, coded×, coded_ℕ, coded_list}
use Rattle.std.proofs.Common.{refl}
use Rattle.part_tree.specs.declared.sizes.TheConstants.{HEIGHT}
use Rattle.part_tree.specs.Part.{Part, IsPart}
use Rattle.part_tree.specs.Codes.{part_code}

-- where the stretch begins, how many steps and which input words it has, and the memory that it touches
pub record Seal : Type 0 where
  pub pc : ℕ
  pub steps : ℕ
  pub words : List ℕ
  pub tree : Part

-- a seal is stored as its fields
abbrev pub seal_code : Coded Seal
seal_code =
    code_by (ℕ × (ℕ × (List ℕ × Part))) (coded× coded_ℕ (coded× coded_ℕ (coded× (coded_list coded_ℕ) part_code)))
    (λ s. (s.pc, (s.steps, (s.words, s.tree))))
    (λ p. record { pc = p.0; steps = p.1.0; words = p.1.1.0; tree = p.1.1.1 })
    (λ _. refl)

-- a seal as the format has it: the pc is an aligned word, it has a step, and its tree has its shape
pub record IsSeal (seal : Seal) : Type 0 where
  pub aligned : seal.pc % 4 ≡ 0
  pub is_word : seal.pc < 2 ^ 32
  pub some_steps : 0 < seal.steps
  pub shape : IsPart HEIGHT seal.tree

-- the words and steps of seals, one after the other
abbrev pub words_of : List Seal → List ℕ
words_of [] = []
words_of (seal ∷ seals) = seal.words ++ words_of seals

abbrev pub steps_of : List Seal → ℕ
steps_of [] = 0
steps_of (seal ∷ seals) = seal.steps + steps_of seals
