use Rattle.std.proofs.Common.{false, sym}
use Rattle.outside.proofs.Passed.{passed-more, named-default}
use Rattle.outside.proofs.places.place_of.Goals as goal

pub loop-place-preserved : goal.loop-place-preserved
loop-place-preserved c =
    let unlike = named-default c.args.files.now c.args.name.now c.loop-place.place
    c.index-files-place.result false c.loop-place-test.true c.index-files-place.is
    c.if-has_name.ensures in
    passed-more _ _ _ c.loop-place.invariant (sym unlike)
