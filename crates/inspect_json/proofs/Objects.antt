-- The texts of the objects.
use Rattle.std.proofs.Common.{◌≡◌, ℕ, List, [], ◌∷◌, ◌++◌, map, Bool, false, ◌||◌, refl, sym, ap, ◌∙◌, append_assoc}
use Rattle.std.specs.Prelude.{codes, decimal}
use Rattle.std.specs.Fmt.{digits}
use Rattle.json.specs.Print.{escape, escape_byte}
use Rattle.hex.specs.Hex.{encode_lower}
use Rattle.serde_json.specs.Data.{Data, number, unsigned, string, array, object, Items, member, no_members}
use Rattle.serde_json.specs.View.{view, items_view}
use Rattle.serde_json.specs.Written.{has_float, compact_text, items_text}
use Rattle.serde_json.specs.declared.value.Value.{Value}
use Rattle.check_core.specs.Reports.{EntryReport, Report}
use Rattle.inspect_json.specs.Text.{list_text, entry_text, report_object}
use Rattle.inspect_json.specs.Values.{HasText, HaveTexts}
use Rattle.inspect_json.proofs.Lists.{no_floats, joined}

-- the digits of a digest stand in a string as they are
abbrev pub Stands : List ℕ → Type 0
Stands digest = escape (encode_lower digest) ≡ encode_lower digest

-- ---- an entry
abbrev pub entry_data : EntryReport → Items → Data
entry_data e links =
    object
    (member (codes "calls") (number (unsigned e.calls))
    (member (codes "claim") (string (encode_lower e.claim))
    (member (codes "conditional") (string (encode_lower e.conditional))
    (member (codes "exit") (number (unsigned e.exit))
    (member (codes "image") (string (encode_lower e.image))
    (member (codes "journal_bytes") (number (unsigned e.journal_bytes))
    (member (codes "journal_digest") (string (encode_lower e.journal_digest))
    (member (codes "links") (array links)
    (member (codes "seals") (number (unsigned e.seals)) (member (codes "steps") (number (unsigned e.steps)) no_members))))))))))

regroup : (k₁ a k₂ b k₃ c k₄ d k₅ e k₆ f k₇ g k₈ h k₉ i k₁₀ j end : List ℕ)
    → k₁ ++ (a ++ (k₂ ++ (b ++ (k₃ ++ (c ++ (k₄ ++ (d ++ (k₅ ++ (e ++ (k₆ ++ (f ++ (k₇ ++ (g ++ (k₈ ++ (h ++ (k₉ ++ (i ++ (k₁₀ ++ (j ++ end)))))))))))))))))))
    ≡ k₁ ++ a ++ k₂ ++ b ++ k₃ ++ c ++ k₄ ++ d ++ k₅ ++ e ++ k₆ ++ f ++ k₇ ++ g ++ k₈ ++ h ++ k₉ ++ i ++ k₁₀ ++ j ++ end
regroup k₁ a k₂ b k₃ c k₄ d k₅ e k₆ f k₇ g k₈ h k₉ i k₁₀ j end = simp append_assoc

-- as it is written, and as it is defined
abbrev nested_entry : EntryReport → List ℕ → List ℕ → List ℕ → List ℕ → List ℕ → List ℕ
nested_entry e claim conditional image journal_digest links =
    codes "{\"calls\":"
    ++ (decimal e.calls
    ++ (codes ",\"claim\":"
    ++ ((34 ∷ (claim ++ 34 ∷ []))
    ++ (codes ",\"conditional\":"
    ++ ((34 ∷ (conditional ++ 34 ∷ []))
    ++ (codes ",\"exit\":"
    ++ (decimal e.exit
    ++ (codes ",\"image\":"
    ++ ((34 ∷ (image ++ 34 ∷ []))
    ++ (codes ",\"journal_bytes\":"
    ++ (decimal e.journal_bytes
    ++ (codes ",\"journal_digest\":"
    ++ ((34 ∷ (journal_digest ++ 34 ∷ []))
    ++ (codes ",\"links\":"
    ++ (links
    ++ (codes ",\"seals\":"
    ++ (decimal e.seals
    ++ (codes ",\"steps\":"
    ++ (decimal e.steps ++ codes "}")))))))))))))))))))

entry_nested : (e : EntryReport) (links : Items)
    → compact_text (entry_data e links) ≡ nested_entry e (escape (encode_lower e.claim)) (escape (encode_lower e.conditional)) (escape (encode_lower e.image)) (escape (encode_lower e.journal_digest)) (91 ∷ items_text false links)
unfolding escape_byte
entry_nested e links = refl

entry_texts : (e : EntryReport) (links : Items) → Stands e.claim → Stands e.conditional → Stands e.image → Stands e.journal_digest → 91 ∷ items_text false links ≡ list_text (map decimal e.links)
    → compact_text (entry_data e links) ≡ entry_text e
entry_texts e links claim conditional image journal_digest listed =
    entry_nested e links
    ∙ ap (λ (s : List ℕ). nested_entry e s (escape (encode_lower e.conditional)) (escape (encode_lower e.image)) (escape (encode_lower e.journal_digest)) (91 ∷ items_text false links)) claim
    ∙ ap (λ (s : List ℕ). nested_entry e (encode_lower e.claim) s (escape (encode_lower e.image)) (escape (encode_lower e.journal_digest)) (91 ∷ items_text false links)) conditional
    ∙ ap (λ (s : List ℕ). nested_entry e (encode_lower e.claim) (encode_lower e.conditional) s (escape (encode_lower e.journal_digest)) (91 ∷ items_text false links)) image
    ∙ ap (λ (s : List ℕ). nested_entry e (encode_lower e.claim) (encode_lower e.conditional) (encode_lower e.image) s (91 ∷ items_text false links)) journal_digest
    ∙ ap (nested_entry e (encode_lower e.claim) (encode_lower e.conditional) (encode_lower e.image) (encode_lower e.journal_digest)) listed
    ∙ regroup (codes "{\"calls\":") (decimal e.calls) (codes ",\"claim\":") (34 ∷ (encode_lower e.claim ++ 34 ∷ [])) (codes ",\"conditional\":") (34 ∷ (encode_lower e.conditional ++ 34 ∷ [])) (codes ",\"exit\":")
    (decimal e.exit) (codes ",\"image\":") (34 ∷ (encode_lower e.image ++ 34 ∷ [])) (codes ",\"journal_bytes\":") (decimal e.journal_bytes) (codes ",\"journal_digest\":")
    (34 ∷ (encode_lower e.journal_digest ++ 34 ∷ [])) (codes ",\"links\":") (list_text (map decimal e.links)) (codes ",\"seals\":") (decimal e.seals) (codes ",\"steps\":") (decimal e.steps) (codes "}")

pub entry_written : (value : Value) (e : EntryReport) (links : List Value) → view value ≡ entry_data e (items_view links) → Stands e.claim → Stands e.conditional → Stands e.image → Stands e.journal_digest
    → HaveTexts links (map decimal e.links) → HasText value (entry_text e)
entry_written value e links is claim conditional image journal_digest all = (
  ap has_float is ∙ ap (λ (b : Bool). b || false) (no_floats links (map decimal e.links) all),
  ap compact_text is ∙ entry_texts e (items_view links) claim conditional image journal_digest (joined links (map decimal e.links) all),
)

-- ---- a report
abbrev pub report_data : Items → Data
report_data entries = object (member (codes "entries") (array entries) (member (codes "version") (number (unsigned 1)) no_members))

regroup_report : (k a end : List ℕ) → k ++ (a ++ end) ≡ k ++ a ++ end
regroup_report k a end = sym (append_assoc k a end)

report_nested : (entries : Items) → compact_text (report_data entries) ≡ codes "{\"entries\":" ++ ((91 ∷ items_text false entries) ++ codes ",\"version\":1}")
unfolding escape_byte digits
report_nested entries = refl

pub report_written : (value : Value) (report : Report) (entries : List Value) → view value ≡ report_data (items_view entries) → HaveTexts entries (map entry_text report.entries)
    → HasText value (report_object report)
report_written value report entries is all = (
  ap has_float is ∙ ap (λ (b : Bool). b || false) (no_floats entries (map entry_text report.entries) all),
  ap compact_text is
      ∙ report_nested (items_view entries)
      ∙ ap (λ (s : List ℕ). codes "{\"entries\":" ++ (s ++ codes ",\"version\":1}")) (joined entries (map entry_text report.entries) all)
      ∙ regroup_report (codes "{\"entries\":") (list_text (map entry_text report.entries)) (codes ",\"version\":1}"),
)
