use Rattle.std.proofs.Common.{◌≡◌, ℕ, List, Some, get_or, map, sym, ap, ap₂, ◌∙◌}
use Rattle.std.specs.Arc.{arc_value}
use Rattle.std.specs.Prelude.{option_map}
use Rattle.elf_image.specs.Loaded.{image_of}
use Rattle.receipt_types.specs.Bundles.{Entry, Bundle}
use Rattle.receipt_types.specs.Seals.{words_of}
use Rattle.check_core.proofs.Linked.{item_is}
use Rattle.audit.specs.declared.disagreement.Disagreement.{Disagreement}
use Rattle.audit.proofs.Compared.{sound, first_pair_is, entry_low}
use Rattle.audit.proofs.auditing.audit.Goals as goal

pub returns-in-Some-clause-finding : goal.returns-in-Some-clause-finding
returns-in-Some-clause-finding g c =
    let H = g.D.Digester.digest_of in
    first_pair_is H g.D.Digester.is_digest c.args.bundle.now c.args.entry (image_of c.args.image.now) c.requires c.in_ok-found.ensures.image c.in_ok-found.ensures.auditable c.in-Some.first.pair
    (sym c.in_ok-found.ensures.pair ∙ ap (option_map (λ (f : Disagreement). f.pair)) c.in-Some.is)

pub returns-in_ok-words-in-None-clause-finding : goal.returns-in_ok-words-in-None-clause-finding
returns-in_ok-words-in-None-clause-finding g c =
    let H = g.D.Digester.digest_of in
    let B : Bundle = c.args.bundle.now in
    let e : ℕ = c.args.entry in
    let can = c.in_ok-found.ensures.auditable in
    let entry : Entry = c.index-as_slice-from.result in
    let low = entry_low H g.D.Digester.is_digest B e can.first can.is_first in
    let is_entry : entry ≡ get_or B e entry = c.index-as_slice-from.is ∙ ap₂ (λ (xs : List Entry) (n : ℕ). get_or xs n entry) (c.as_slice.ensures ∙ c.bundle.view_is) c.from.ensures in
    let seals : map (λ seal. arc_value seal) c.as_slice-in-None.result.now ≡ entry.seals =
    ap (map (λ seal. arc_value seal)) c.as_slice-in-None.ensures ∙ ap (λ (x : Entry). x.seals) c.asked.view_is in
    sound H g.D.Digester.is_digest c.args.bundle.now c.args.entry (image_of c.args.image.now) c.requires c.in_ok-found.ensures.image c.in_ok-found.ensures.auditable c.in_ok-words-in-None.words.items
    (sym c.in_ok-found.ensures.pair ∙ ap (option_map (λ (f : Disagreement). f.pair)) c.in-None.is)
    (ap (option_map (λ (x : Entry). words_of x.seals)) (item_is B e entry low ∙ ap Some (sym is_entry))
    ∙ ap Some (sym (c.in_ok-words-in-None.ensures ∙ ap words_of seals)))
