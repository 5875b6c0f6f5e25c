use Rattle.std.proofs.Common.{◌≡◌, ◌++◌, List, ℕ, length, map, sym, ap, subst, ◌∙◌}
use Rattle.std.specs.Arc.{arc_value}
use Rattle.std.specs.Int.{w16, w32, to_le_bytes}
use Rattle.std.specs.List.{flat_map}
use Rattle.std.proofs.lemmas.List.{length-map}
use Rattle.receipt_types.specs.Seals.{Seal}
use Rattle.receipt_types.specs.Bundles.{Entry}
use Rattle.receipt_types.specs.Limits.{SealLimits, AllSealLimits}
use Rattle.receipt_types.specs.Spelling.{seal_bytes}
use Rattle.receipt_codec.proofs.Written.{item_written, items_written, entry_written, seals_written, limits_at}
use Rattle.receipt_codec.proofs.writer.put_entry.Goals as goal

pub write_seal-requires : goal.write_seal-requires
write_seal-requires c =
    let same : map (λ seal. arc_value seal) c.as_slice-seals.result.now ≡ c.args.entry.now.seals =
    ap (map (λ seal. arc_value seal)) c.as_slice-seals.ensures ∙ ap (λ (e : Entry). e.seals) c.entry.view_is in
    let all = subst AllSealLimits (sym same) c.requires.seals in
    let here = limits_at (λ seal. arc_value seal) c.as_slice-seals.result.now c.loop-seal.seal-index c.seal-item.result c.loop-seal-test.true all in
    subst (λ (s : Seal). SealLimits s) (sym (c.deref.ensures ∙ ap (λ seal. arc_value seal) c.seal-item.is)) here

pub loop-seal-preserved : goal.loop-seal-preserved
loop-seal-preserved c =
    let value = c.deref.ensures ∙ ap (λ seal. arc_value seal) c.seal-item.is in
    item_written (λ seal. seal_bytes (arc_value seal)) c.as_slice-seals.result.now c.loop-seal.seal-index c.seal-item.result c.loop-link.out c.loop-seal.out c.write_seal.new.out
    c.loop-seal-test.true c.loop-seal.invariant (c.in_ok-write_seal.ensures.ok ∙ ap (λ (s : Seal). c.loop-seal.out ++ seal_bytes s) value)

pub returns : goal.returns
returns c =
    let entry : Entry = c.args.entry.now in
    let links : c.as_slice-links.result.now ≡ entry.links = c.as_slice-links.ensures ∙ ap (λ (e : Entry). e.links) c.entry.view_is in
    let seals : map (λ seal. arc_value seal) c.as_slice-seals.result.now ≡ entry.seals =
    ap (map (λ seal. arc_value seal)) c.as_slice-seals.ensures ∙ ap (λ (e : Entry). e.seals) c.entry.view_is in
    let link_count : c.put_u32.new.self ≡ c.args.out.now ++ to_le_bytes w32 (length entry.links) =
    c.in_ok-put_u32.ensures.ok ∙ ap (λ (z : List ℕ). c.args.out.now ++ to_le_bytes w32 (length z)) links in
    let many : length c.as_slice-seals.result.now ≡ length entry.seals = sym (length-map c.as_slice-seals.result.now (λ seal. arc_value seal)) ∙ ap length seals in
    let seal_count : c.put_u32-2.new.self ≡ c.put_u32.new.self ++ to_le_bytes w32 (length entry.seals) =
    c.in_ok-put_u32-2.ensures.ok ∙ ap (λ (n : ℕ). c.put_u32.new.self ++ to_le_bytes w32 n) many in
    let all_links =
    items_written (to_le_bytes w16) c.as_slice-links.result.now c.loop-link.link-index c.put_u32-2.new.self c.loop-link.out c.loop-link-test.false c.loop-link.invariant
    ∙ ap (λ (z : List ℕ). c.put_u32-2.new.self ++ flat_map (to_le_bytes w16) z) links in
    let all_seals =
    seals_written (λ seal. arc_value seal) c.as_slice-seals.result.now entry.seals c.loop-seal.seal-index c.loop-link.out c.loop-seal.out seals c.loop-seal-test.false
    c.loop-seal.invariant in
    entry_written entry c.args.out.now c.put_u32.new.self c.put_u32-2.new.self c.loop-link.out c.loop-seal.out link_count seal_count all_links all_seals
