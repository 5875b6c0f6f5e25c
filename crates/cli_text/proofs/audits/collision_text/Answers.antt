use Rattle.std.proofs.Common.{◌≡◌, ◌∙◌, ℕ, List, length, ap, ap₂, append_assoc}
use Rattle.std.specs.Prelude.{decimal, string_bytes}
use Rattle.std.proofs.lemmas.Result.{IfOk-weaker}
use Rattle.hex.specs.Hex.{encode_lower}
use Rattle.part_tree.specs.Splits.{Pair}
use Rattle.cli_text.specs.Audits.{collision_lines}
use Rattle.cli_text.proofs.Auditing.{pair_lines, pair_text, pair_written}
use Rattle.cli_text.proofs.audits.collision_text.Goals as goal

pub returns : goal.returns
returns c =
    let left : List ℕ = string_bytes c.in_ok-left.left in
    let right : List ℕ = string_bytes c.in_ok-right.right in
    let m : ℕ = c.len-left_count.result in
    let n : ℕ = c.len-right_count.result in
    let of_left : List ℕ = c.pair.inside.left.items in
    let written : string_bytes c.in_ok-text.text ≡ pair_text (decimal m) left (decimal n) right = c.in_ok-text.ensures.ok ∙ simp append_assoc in
    let same_left : left ≡ encode_lower of_left = c.in_ok-left.ensures ∙ ap encode_lower c.as_slice.ensures in
    let same_right : right ≡ encode_lower c.pair.inside.right.items = c.in_ok-right.ensures ∙ ap encode_lower c.as_slice-2.ensures in
    IfOk-weaker c.bytes_of.result _ _
    (λ bytes e. e
    ∙ c.as_str.ensures.value
    ∙ written
    ∙ pair_written (decimal m) left (decimal n) right
    ∙ ap₂ (λ (k : ℕ) (digits : List ℕ). pair_lines (decimal k) digits (decimal n) right) c.len-left_count.ensures same_left
    ∙ ap₂ (λ (k : ℕ) (digits : List ℕ). pair_lines (decimal (length of_left)) (encode_lower of_left) (decimal k) digits) c.len-right_count.ensures same_right
    ∙ ap (λ (pair : Pair). collision_lines pair) c.pair.view_is) c.bytes_of.ensures
