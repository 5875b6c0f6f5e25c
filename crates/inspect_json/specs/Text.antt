-- The JSON text of a report: each object has its members in the order of their keys, and no space stands between them.
use Rattle.std.specs.Prelude.{ℕ, List, ◌++◌, map, codes, decimal}
use Rattle.std.specs.List.{join_with_byte}
use Rattle.hex.specs.Hex.{encode_lower}
use Rattle.check_core.specs.Reports.{EntryReport, Report}

-- a digest, as a string of lower-case hexadecimal digits
abbrev pub digest_json : List ℕ → List ℕ
digest_json digest = codes "\"" ++ encode_lower digest ++ codes "\""

-- a list of the values that have these texts, with commas (byte 44) between them
abbrev pub list_text : List (List ℕ) → List ℕ
list_text texts = codes "[" ++ join_with_byte 44 texts ++ codes "]"

-- the object of an entry, a member a line
abbrev pub entry_text : EntryReport → List ℕ
entry_text entry =
    codes "{\"calls\":" ++ decimal entry.calls
    ++ codes ",\"claim\":" ++ digest_json entry.claim
    ++ codes ",\"conditional\":" ++ digest_json entry.conditional
    ++ codes ",\"exit\":" ++ decimal entry.exit
    ++ codes ",\"image\":" ++ digest_json entry.image
    ++ codes ",\"journal_bytes\":" ++ decimal entry.journal_bytes
    ++ codes ",\"journal_digest\":" ++ digest_json entry.journal_digest
    ++ codes ",\"links\":" ++ list_text (map decimal entry.links)
    ++ codes ",\"seals\":" ++ decimal entry.seals
    ++ codes ",\"steps\":" ++ decimal entry.steps ++ codes "}"

-- the object of a report
abbrev pub report_object : Report → List ℕ
report_object report = codes "{\"entries\":" ++ list_text (map entry_text report.entries) ++ codes ",\"version\":1}"

-- the object, and a line feed
abbrev pub report_line : Report → List ℕ
report_line report = report_object report ++ codes "\n"
