use Rattle.std.proofs.Common.{sym, ◌∙◌, ap}
use Rattle.outside.proofs.Passed.{passed-held, stands-held}
use Rattle.outside.proofs.places.held.Goals as goal

pub returns-in_err-place : goal.returns-in_err-place
returns-in_err-place c =
    rw c.from_residual.ensures
    (sym (passed-held c.args.files.now c.args.name.now c.in_err-place.ensures.none))

pub returns : goal.returns
returns c = c.held.ensures
    ∙ (ap (λ f. f.held) c.index-files-place.is
    ∙ sym (stands-held _ _ _ _ c.in_ok-place.ensures.found))
