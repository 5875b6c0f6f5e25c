-- How a pair is told apart as plain data: by its two strings.
use Rattle.std.specs.Prelude.{ℕ, List}
use Rattle.std.specs.Coded.{Coded, code_by, coded×, coded_ℕ, coded_list}
use Rattle.std.proofs.Common.{refl}
use Rattle.part_tree.specs.Splits.{Pair}

abbrev pub pair_code : Coded Pair
pair_code =
    code_by (List ℕ × List ℕ) (coded× (coded_list coded_ℕ) (coded_list coded_ℕ))
    (λ pair. (pair.left, pair.right)) (λ p. record { left = p.0; right = p.1 }) (λ _. refl)
