use Rattle.std.proofs.Common.{rules, ◌≡◌, ℕ, List, Option, Err, subst}
use Rattle.outside.specs.Files.{Files}
use Rattle.elf_image.specs.Loaded.{image_of}
use Rattle.command_frame.specs.Ends.{HasCause}
use Rattle.command_frame.specs.Reading.{IsRead, IsUnread}
use Rattle.command_frame.specs.declared.reading.TheConstants.{MOST_INPUT_BYTES}
use Rattle.prove_calls.specs.Guest.{IsInput, IsBadInput}
use Rattle.prove_calls.proofs.Answering.{no_image, no_input, bad_input, one_guest}
use Rattle.prove_calls.proofs.guest.read_guest.Goals as goal

pub returns-in_err-image-clause-none : goal.returns-in_err-image-clause-none
returns-in_err-image-clause-none g c =
    let told : Option Files = g.K.Desk.contents c.args.desk.now in
    let end = c.in_err-image.field-0.0 in
    let is : c.from_residual.result ≡ Err end = search rules in
    rw is (no_image c.args.elf.now c.args.input.now told end c.in_err-image.ensures.none)

pub returns-in_err-bytes-clause-none : goal.returns-in_err-bytes-clause-none
returns-in_err-bytes-clause-none g c =
    let told : Option Files = g.K.Desk.contents c.args.desk.now in
    let input = c.args.input.now in
    let end = c.in_err-bytes.field-0.0 in
    let is : c.from_residual-in_err-bytes.result ≡ Err end = search rules in
    rw is
    (no_input c.args.elf.now input told (image_of c.in_ok-image.image) c.in_ok-image.ensures.image end
    (subst (λ (t : Option Files). HasCause (IsUnread MOST_INPUT_BYTES input t) end) c.read_image.ensures.contents c.in_err-bytes.ensures.unread))

pub returns-in_err-words-clause-none : goal.returns-in_err-words-clause-none
returns-in_err-words-clause-none g c =
    let told : Option Files = g.K.Desk.contents c.args.desk.now in
    let input = c.args.input.now in
    let bytes : List ℕ = c.in_ok-bytes.bytes.items in
    let end = c.in_err-words.field-0.0 in
    let is : c.from_residual-in_err-words.result ≡ Err end = search rules in
    let read = subst (λ (t : Option Files). IsRead MOST_INPUT_BYTES input t bytes) c.read_image.ensures.contents c.in_ok-bytes.ensures.read in
    rw is
    (bad_input c.args.elf.now input told (image_of c.in_ok-image.image) c.in_ok-image.ensures.image bytes read end
    (subst (λ (b : List ℕ). HasCause (IsBadInput b) end) c.as_slice.ensures c.in_err-words.ensures.bad))

pub returns-clause-guest : goal.returns-clause-guest
returns-clause-guest g c =
    let told : Option Files = g.K.Desk.contents c.args.desk.now in
    let input = c.args.input.now in
    let bytes : List ℕ = c.in_ok-bytes.bytes.items in
    let read = subst (λ (t : Option Files). IsRead MOST_INPUT_BYTES input t bytes) c.read_image.ensures.contents c.in_ok-bytes.ensures.read in
    one_guest c.args.elf.now input told (image_of c.in_ok-image.image) c.in_ok-image.ensures.image bytes read c.in_ok-words.words.items
    (subst (λ (b : List ℕ). IsInput b c.in_ok-words.words.items) c.as_slice.ensures c.in_ok-words.ensures.words)
