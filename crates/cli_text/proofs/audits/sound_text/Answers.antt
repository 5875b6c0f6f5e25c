use Rattle.std.proofs.Common.{◌≡◌, ◌∙◌, ℕ, List, length, sym, ap, append_assoc}
use Rattle.std.specs.Prelude.{decimal, string_bytes}
use Rattle.std.proofs.lemmas.Result.{IfOk-weaker}
use Rattle.hex.specs.Hex.{encode_lower}
use Rattle.cli_text.proofs.Auditing.{no_words, sound_text, some_words}
use Rattle.cli_text.proofs.audits.sound_text.Goals as goal

pub returns-then-is_empty : goal.returns-then-is_empty
returns-then-is_empty c = IfOk-weaker c.bytes_of.result _ _ (λ bytes e. e ∙ no_words c.args.words.now (sym c.if-is_empty.ensures)) c.bytes_of.ensures

pub returns : goal.returns
returns c =
    let words = c.args.words.now in
    let count = decimal (length words) in
    let written : string_bytes c.in_ok-text.text ≡ sound_text count (string_bytes c.in_ok-digits.digits) = c.in_ok-text.ensures.ok ∙ simp append_assoc in
    let digits = c.in_ok-digits.ensures ∙ ap encode_lower (c.as_slice.ensures ∙ c.in_ok-bytes.ensures) in
    IfOk-weaker c.bytes_of-2.result _ _
    (λ bytes e. e ∙ c.as_str.ensures.value ∙ written ∙ ap (sound_text count) digits ∙ some_words words (sym c.if-is_empty.ensures)) c.bytes_of-2.ensures
