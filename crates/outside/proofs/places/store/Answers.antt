use Rattle.std.proofs.Common.{refl, arith, length}
use Rattle.outside.proofs.Passed.{passed-room, stands-room, stands-files, stands-stored}
use Rattle.outside.proofs.places.store.Goals as goal

pub returns-in_default-clause-room : goal.returns-in_default-clause-room
returns-in_default-clause-room c =
    (λ h. cc, λ room. absurd (passed-room _ _ _ c.in_default.ensures.none room))

pub returns-then-room-bytes-clause-room : goal.returns-then-room-bytes-clause-room
returns-then-room-bytes-clause-room c =
    let same = stands-room c.args.files.now c.args.name.now (length c.args.bytes.now)
    c.in-Some.place c.index-files-place.result c.in-Some.ensures.found in
    (λ h. cc, λ room. absurd (let fits = rw same at room in omega (arith, fits)))

pub returns-clause-stored : goal.returns-clause-stored
returns-clause-stored c = stands-stored _ _ _ _ _ _ c.in-Some.ensures.found c.fill.ensures

pub returns-clause-room : goal.returns-clause-room
returns-clause-room c =
    let same = stands-room c.args.files.now c.args.name.now (length c.args.bytes.now)
    c.in-Some.place c.index-files-place.result c.in-Some.ensures.found in
    (λ h. rw same (omega arith), λ room. refl)

pub returns-clause-files : goal.returns-clause-files
returns-clause-files c = stands-files _ _ _ _ _ _ c.in-Some.ensures.found c.fill.ensures
