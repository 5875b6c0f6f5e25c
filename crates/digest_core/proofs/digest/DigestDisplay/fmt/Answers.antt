use Rattle.std.proofs.Common.{◌≡◌, ℕ, ◌<◌, List, [], ◌∷◌, Bool, true, ◌&&◌, nat_lt, refl, sym, ap, ◌∙◌, arith, subst}
use Rattle.std.specs.Str.{IsAscii, IsUtf8}
use Rattle.std.proofs.lemmas.Bool.{and_parts}
use Rattle.std.proofs.lemmas.Bool.Decides.{nat_tests}
use Rattle.std.proofs.lemmas.Str.{IsUtf8-from_ascii}
use Rattle.std.proofs.lemmas.Str.Ascii.{IsAscii-nil, IsAscii-cons}
use Rattle.hex.specs.Hex.{lower_digits}
use Rattle.hex.proofs.HexLemmas.{IsAscii-encode_with}
use Rattle.digest_core.specs.Text.{digest_text}
use Rattle.digest_core.proofs.digest.DigestDisplay.fmt.Goals as goal

-- each byte is below 128, by a test that computes
abbrev are_ascii : List ℕ → Bool
are_ascii [] = true
are_ascii (byte ∷ bytes) = nat_lt byte 128 && are_ascii bytes

IsAscii-tested : (bytes : List ℕ) → are_ascii bytes ≡ true → IsAscii bytes
IsAscii-tested [] tested = IsAscii-nil
IsAscii-tested (byte ∷ bytes) tested =
    let parts = and_parts (nat_lt byte 128) (are_ascii bytes) tested in
    let below : byte < 128 = grind (arith, nat_tests, parts.0) in
    IsAscii-cons byte bytes below (IsAscii-tested bytes parts.1)

IsUtf8-digest_text : (digest : List ℕ) → IsUtf8 (digest_text digest)
IsUtf8-digest_text digest = IsUtf8-from_ascii (digest_text digest) (IsAscii-encode_with lower_digits digest (IsAscii-tested lower_digits refl))

pub unreachable-requires-in_default-from_utf8 : goal.unreachable-requires-in_default-from_utf8
unreachable-requires-in_default-from_utf8 g c =
    c.in_default-from_utf8.ensures.cases.0 (subst IsUtf8 (sym c.in-Ok.ensures.written) (IsUtf8-digest_text _))
