use Rattle.std.proofs.Common.{◌≡◌, ◌<◌, arith, length, ◌++◌, sym, ap₂, ◌∙◌, eqb-true}
use Rattle.std.proofs.lemmas.List.{take-append-drop}
use Rattle.std.proofs.lemmas.Result.{err_from_is_err_and}
use Rattle.page_core.proofs.Ranges.{put_none, put_next, torn_so_far, stored_so_far, absent_at, put_all, stored_all}
use Rattle.page_core.proofs.page_map.PageMap.set_bytes.Goals as goal

pub loop-rest-init : goal.loop-rest-init
loop-rest-init c = put_none c.args.self.now c.args.address c.args.bytes.now

pub returns-in_err-put_bytes-clause-torn : goal.returns-in_err-put_bytes-clause-torn
returns-in_err-put_bytes-clause-torn c =
    let out = err_from_is_err_and c.from_residual.result c.from_residual.ensures.1 in
    rw out.1 (torn_so_far _ _ _ _ _ _ _ c.loop-rest.invariant c.in_err-put_bytes.ensures.kept)

pub returns-in_err-put_bytes-clause-stored_some : goal.returns-in_err-put_bytes-clause-stored_some
returns-in_err-put_bytes-clause-stored_some c =
    let out = err_from_is_err_and c.from_residual.result c.from_residual.ensures.1 in
    rw out.1 (stored_so_far _ _ _ _ _ _ _ c.loop-rest.invariant c.in_err-put_bytes.ensures.kept)

pub returns-in_err-put_bytes-clause-absent : goal.returns-in_err-put_bytes-clause-absent
returns-in_err-put_bytes-clause-absent c =
    let out = err_from_is_err_and c.from_residual.result c.from_residual.ensures.1 in
    let some : 0 < length c.loop-rest.rest.now = grind (arith, c.loop-rest-test.true, c.is_empty.ensures) in
    rw out.1 (absent_at _ _ _ _ _ _ c.loop-rest.invariant some c.in_err-put_bytes.ensures.absent)

pub loop-rest-preserved : goal.loop-rest-preserved
loop-rest-preserved c =
    let some : 0 < length c.loop-rest.rest.now = grind (arith, c.loop-rest-test.true, c.is_empty.ensures) in
    let size : length c.split_at.result.0.now ≡ c.min.result = c.split_at.ensures.front_len in
    put_next _ _ _ _ _ _ _ _ _ c.loop-rest.invariant
    (ap₂ ◌++◌ c.split_at.ensures.front c.split_at.ensures.back ∙ take-append-drop c.min.result c.loop-rest.rest.now)
    (omega (arith, size, some, c.min.ensures))
    (omega (arith, size, c.min.ensures))
    c.in_ok-put_bytes.ensures.written c.in_ok-put_bytes.ensures.stored

pub returns-clause-written : goal.returns-clause-written
returns-clause-written c = put_all _ _ _ _ _ _ c.loop-rest.invariant (eqb-true (length c.loop-rest.rest.now) 0 (sym c.is_empty.ensures ∙ c.loop-rest-test.false))

pub returns-clause-stored : goal.returns-clause-stored
returns-clause-stored c = stored_all _ _ _ _ _ _ c.loop-rest.invariant (eqb-true (length c.loop-rest.rest.now) 0 (sym c.is_empty.ensures ∙ c.loop-rest-test.false))
