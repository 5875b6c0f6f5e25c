-- The lines of an audit. Counts are decimal, bytes lower-case hexadecimal.
use Rattle.std.specs.Prelude.{ℕ, List, ◌++◌, length, codes, decimal}
use Rattle.std.specs.Int.{w32, to_le_bytes}
use Rattle.std.specs.List.{flat_map}
use Rattle.hex.specs.Hex.{encode_lower}
use Rattle.digest_core.specs.Text.{digest_text}
use Rattle.part_tree.specs.Splits.{Pair}
use Rattle.audit.specs.declared.finding.Finding.{Finding}
use Rattle.audit.specs.declared.finding.Finding.TheVariants.{Sound, Collision}
use Rattle.audit.specs.declared.stop.AuditStop.{AuditStop}
use Rattle.audit.specs.declared.stop.AuditStop.TheVariants.{Refused, NoEntry, OtherImage, Memory}
use Rattle.cli_text.specs.Lines.{line, journal_tail}
use Rattle.cli_text.specs.Refusals.{stop_lines}

-- an entry says the truth of the run on these words, which stand as an input file has them
abbrev pub sound_lines : List ℕ → List ℕ
sound_lines words = line (codes "sound") ++ line (codes "words " ++ decimal (length words) ++ journal_tail (flat_map (to_le_bytes w32) words))

-- two strings have one digest
abbrev pub collision_lines : Pair → List ℕ
collision_lines pair =
    line (codes "collision")
    ++ line (codes "left " ++ decimal (length pair.left) ++ codes " " ++ encode_lower pair.left)
    ++ line (codes "right " ++ decimal (length pair.right) ++ codes " " ++ encode_lower pair.right)

abbrev pub finding_lines : Finding → List ℕ
finding_lines (Sound words) = sound_lines words.items
finding_lines (Collision pair) = collision_lines pair

-- an entry isn't audited
abbrev pub no_entry_lines : ℕ → ℕ → List ℕ
no_entry_lines entry count = line (codes "refused entry " ++ decimal entry ++ codes " " ++ decimal count)

abbrev pub other_image_lines : List ℕ → List ℕ → List ℕ
other_image_lines wanted found = line (codes "refused other-image " ++ digest_text wanted ++ codes " " ++ digest_text found)

abbrev pub audit_stop_lines : ℕ → AuditStop → List ℕ
audit_stop_lines entry (Refused stop) = stop_lines stop
audit_stop_lines entry (NoEntry count) = no_entry_lines entry count
audit_stop_lines entry (OtherImage wanted found) = other_image_lines wanted found
audit_stop_lines entry Memory = line (codes "refused ")
