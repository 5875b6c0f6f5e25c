use Rattle.std.proofs.Common.{rules, ◌≡◌, List, Option, Err, refl, subst}
use Rattle.outside.specs.Files.{Files}
use Rattle.elf_image.specs.Loaded.{image_of}
use Rattle.check_core.specs.Checked.{Checked}
use Rattle.resolve.specs.Resolving.{bundles_of}
use Rattle.command_frame.specs.Ends.{HasCause}
use Rattle.command_frame.proofs.Causes.{ended_by}
use Rattle.prove_calls.specs.Others.{HasOthers, HasBadOther}
use Rattle.prove_calls.specs.Prove.{ProofAsked, StopsRun, AnswersProve}
use Rattle.prove_calls.specs.Proofs.{IsProofOf, run_of}
use Rattle.prove_calls.proofs.Answering.{guest_named, none_named, prove_none, prove_without, prove_stops, prove_told}
use Rattle.prove_calls.proofs.prove.prove.Goals as goal

pub returns-in_err-guest-clause-answer : goal.returns-in_err-guest-clause-answer
returns-in_err-guest-clause-answer g c =
    let H = g.D.Digester.digest_of in
    let told : Option Files = g.K.Desk.contents c.args.desk.now in
    let asked : ProofAsked = record { elf = c.args.elf.now; input = c.args.input.now; receipt = c.args.receipt; limits = c.args.limits; others = c.args.others.now } in
    let end = c.in_err-guest.field-0.0 in
    let is : c.from_residual.result ≡ Err end = search rules in
    ended_by (AnswersProve H asked told) c.from_residual.result end is
    (prove_none H asked told end (none_named c.as_str.result.now asked.elf c.as_str-2.result.now asked.input c.as_str.ensures.value c.as_str-2.ensures.value told end c.in_err-guest.ensures.none))

pub returns-in_err-others-clause-answer : goal.returns-in_err-others-clause-answer
returns-in_err-others-clause-answer g c =
    let H = g.D.Digester.digest_of in
    let told : Option Files = g.K.Desk.contents c.args.desk.now in
    let asked : ProofAsked = record { elf = c.args.elf.now; input = c.args.input.now; receipt = c.args.receipt; limits = c.args.limits; others = c.args.others.now } in
    let guest = c.in_ok-guest.guest in
    let end = c.in_err-others.field-0.0 in
    let is : c.from_residual-in_err-others.result ≡ Err end = search rules in
    ended_by (AnswersProve H asked told) c.from_residual-in_err-others.result end is
    (prove_without H asked told (image_of guest.image) guest.words.items (guest_named c.as_str.result.now asked.elf c.as_str-2.result.now asked.input c.as_str.ensures.value c.as_str-2.ensures.value told (image_of guest.image) guest.words.items c.in_ok-guest.ensures.guest) end
    (subst (λ (t : Option Files). HasCause (HasBadOther H t asked.others) end) c.read_guest.ensures.contents c.in_err-others.ensures.bad))

pub returns-in_err-proof-clause-answer : goal.returns-in_err-proof-clause-answer
returns-in_err-proof-clause-answer g c =
    let H = g.D.Digester.digest_of in
    let told : Option Files = g.K.Desk.contents c.args.desk.now in
    let asked : ProofAsked = record { elf = c.args.elf.now; input = c.args.input.now; receipt = c.args.receipt; limits = c.args.limits; others = c.args.others.now } in
    let guest = c.in_ok-guest.guest in
    let read : List Checked = c.in_ok-others.others.items in
    let end = c.in_err-proof.field-0.0 in
    let is : c.from_residual-in_err-proof.result ≡ Err end = search rules in
    let named = guest_named c.as_str.result.now asked.elf c.as_str-2.result.now asked.input c.as_str.ensures.value c.as_str-2.ensures.value told (image_of guest.image) guest.words.items c.in_ok-guest.ensures.guest in
    let others = subst (λ (t : Option Files). HasOthers H t asked.others (bundles_of read)) c.read_guest.ensures.contents c.in_ok-others.ensures.others in
    ended_by (AnswersProve H asked told) c.from_residual-in_err-proof.result end is
    (prove_stops H asked told (run_of (image_of guest.image) guest.words.items asked.limits (bundles_of read)) (record { guest = named; limits = refl; others = others }) end
    (subst (λ (items : List Checked). HasCause (StopsRun H (run_of (image_of guest.image) guest.words.items asked.limits (bundles_of items))) end) c.as_slice.ensures c.in_err-proof.ensures.stops))

pub returns-clause-answer : goal.returns-clause-answer
returns-clause-answer g c =
    let H = g.D.Digester.digest_of in
    let told : Option Files = g.K.Desk.contents c.args.desk.now in
    let asked : ProofAsked = record { elf = c.args.elf.now; input = c.args.input.now; receipt = c.args.receipt; limits = c.args.limits; others = c.args.others.now } in
    let guest = c.in_ok-guest.guest in
    let read : List Checked = c.in_ok-others.others.items in
    let named = guest_named c.as_str.result.now asked.elf c.as_str-2.result.now asked.input c.as_str.ensures.value c.as_str-2.ensures.value told (image_of guest.image) guest.words.items c.in_ok-guest.ensures.guest in
    let others = subst (λ (t : Option Files). HasOthers H t asked.others (bundles_of read)) c.read_guest.ensures.contents c.in_ok-others.ensures.others in
    prove_told H asked told (run_of (image_of guest.image) guest.words.items asked.limits (bundles_of read)) (record { guest = named; limits = refl; others = others }) c.in_ok-proof.proof
    (subst (λ (items : List Checked). IsProofOf H (run_of (image_of guest.image) guest.words.items asked.limits (bundles_of items)) c.in_ok-proof.proof) c.as_slice.ensures c.in_ok-proof.ensures.proof)
    c.write_proof.result c.write_proof.ensures.tells
