use Rattle.std.proofs.Common.{refl, sym, ap, ◌∙◌}
use Rattle.std.specs.Prelude.{option_map}
use Rattle.elf_image.specs.Loaded.{image_of}
use Rattle.audit.specs.declared.disagreement.Disagreement.{Disagreement}
use Rattle.audit.proofs.Compared.{agrees, first_pair_is}
use Rattle.audit.proofs.Placed.{stands, none_stands}
use Rattle.audit.proofs.auditing.audit_place.Goals as goal

pub returns-in-Some-clause-strings : goal.returns-in-Some-clause-strings
returns-in-Some-clause-strings g c =
    stands g.D.Digester.digest_of c.args.bundle.now c.args.entry (image_of c.args.image.now) c.in-Some.first.place
    (sym c.in_ok-found.ensures.place ∙ ap (option_map (λ (f : Disagreement). f.place)) c.in-Some.is)

pub returns-in-Some-clause-sound : goal.returns-in-Some-clause-sound
returns-in-Some-clause-sound g c =
    let H = g.D.Digester.digest_of in
    let found = sym c.in_ok-found.ensures.pair ∙ ap (option_map (λ (f : Disagreement). f.pair)) c.in-Some.is in
    let unfaithful = (first_pair_is H g.D.Digester.is_digest c.args.bundle.now c.args.entry (image_of c.args.image.now) c.requires c.in_ok-found.ensures.image c.in_ok-found.ensures.auditable c.in-Some.first.pair found).unfaithful in
    (λ none. absurd (cc), λ faithful. absurd (unfaithful faithful))

pub returns-in-None-clause-strings : goal.returns-in-None-clause-strings
returns-in-None-clause-strings g c = none_stands g.D.Digester.digest_of c.args.bundle.now c.args.entry (image_of c.args.image.now)

pub returns-in-None-clause-sound : goal.returns-in-None-clause-sound
returns-in-None-clause-sound g c =
    let H = g.D.Digester.digest_of in
    let none = sym c.in_ok-found.ensures.pair ∙ ap (option_map (λ (f : Disagreement). f.pair)) c.in-None.is in
    (λ _. agrees H g.D.Digester.is_digest c.args.bundle.now c.args.entry (image_of c.args.image.now) c.requires c.in_ok-found.ensures.image c.in_ok-found.ensures.auditable none, λ _. refl)
