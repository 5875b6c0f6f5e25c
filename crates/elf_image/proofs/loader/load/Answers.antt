use Rattle.std.proofs.Common.{inl, inr, ⊎_elim, ap, ◌∙◌, arith}
use Rattle.std.proofs.lemmas.Result.{err_from_is_err_and}
use Rattle.page_core.specs.Stored.{Stored, memory_of}
use Rattle.elf_image.proofs.Faults.{header_fault, load_fault, entry_fault, no_fault}
use Rattle.elf_image.proofs.Disjoint.{all_pass, below_top}
use Rattle.elf_image.proofs.Filled.{zero_at_first, filled_none, filled_more, zero_above, loads_file}
use Rattle.elf_image.proofs.loader.load.Goals as goal

-- the fault of the file's header is the file's
pub returns-in_err-header-clause-fault : goal.returns-in_err-header-clause-fault
returns-in_err-header-clause-fault c =
    let p = err_from_is_err_and c.from_residual.result c.from_residual.ensures.1 in
    rw (p.1, p.2) (inr (header_fault c.args.file.now c.in_err-header.field-0.0 c.in_err-header.ensures.fault))

-- so is that of its load headers
pub returns-in_err-loads-clause-fault : goal.returns-in_err-loads-clause-fault
returns-in_err-loads-clause-fault c =
    let p = err_from_is_err_and c.from_residual-in_err-loads.result c.from_residual-in_err-loads.ensures.1 in
    rw (p.1, p.2) (⊎_elim (λ memory. inl memory) (λ fault. inr (load_fault c.args.file.now c.in_ok-header.ensures.passes c.in_err-loads.field-0.0 fault)) c.in_err-loads.ensures.fault)

-- and a wrong entry after those
pub returns-then-header-ne0-clause-fault : goal.returns-then-header-ne0-clause-fault
returns-then-header-ne0-clause-fault c =
    inr (entry_fault c.args.file.now c.in_ok-header.ensures.passes c.in_ok-loads.ensures.passes c.in_ok-header.header.entry c.in_ok-header.ensures.entry c.then-header-ne0.either)

-- at first the memory is zero
pub loop-load-init : goal.loop-load-init
loop-load-init c = filled_none c.args.file.now c.as_slice-load-items.result.now (memory_of c.new-map.result) (λ a. ap (λ (s : Stored). memory_of s a) c.new-map.ensures ∙ zero_at_first a)

-- the file bytes of each load header lie in the file, and below the top in memory
pub copy-requires-clause-within : goal.copy-requires-clause-within
copy-requires-clause-within c =
    let all = all_pass c.args.file.now c.as_slice-load-items.result.now _ (c.as_slice-load-items.ensures ∙ c.in_ok-loads.ensures.loads) c.in_ok-loads.ensures.passes in
    (all.at c.loop-load.load-index c.loop-load-test.true).within

pub copy-requires-clause-below : goal.copy-requires-clause-below
copy-requires-clause-below c =
    let all = all_pass c.args.file.now c.as_slice-load-items.result.now _ (c.as_slice-load-items.ensures ∙ c.in_ok-loads.ensures.loads) c.in_ok-loads.ensures.passes in
    below_top c.args.file.now c.as_slice-load-items.result.now all c.loop-load.load-index c.loop-load-test.true

-- the bytes that are put leave those of the load headers before
pub loop-load-preserved : goal.loop-load-preserved
loop-load-preserved c =
    let all = all_pass c.args.file.now c.as_slice-load-items.result.now _ (c.as_slice-load-items.ensures ∙ c.in_ok-loads.ensures.loads) c.in_ok-loads.ensures.passes in
    filled_more c.args.file.now c.as_slice-load-items.result.now all c.loop-load.load-index (memory_of c.loop-load.map) (memory_of c.copy.new.map) c.loop-load-test.true
    c.loop-load.invariant c.in_ok-copy.ensures

-- the memory is zero from the top on
pub invariant_of-result : goal.invariant_of-result
invariant_of-result c =
    let all = all_pass c.args.file.now c.as_slice-load-items.result.now _ (c.as_slice-load-items.ensures ∙ c.in_ok-loads.ensures.loads) c.in_ok-loads.ensures.passes in
    record {
      aligned = c.if-header-ne0.false;
      below = c.if-header-ge-TOP.false;
      rest = zero_above c.args.file.now c.as_slice-load-items.result.now all c.loop-load.load-index (memory_of c.loop-load.map) (omega arith) c.loop-load.invariant;
    }

-- in the end the memory is the file's
pub returns-clause-loads : goal.returns-clause-loads
returns-clause-loads c =
    let are = c.as_slice-load-items.ensures ∙ c.in_ok-loads.ensures.loads in
    let all = all_pass c.args.file.now c.as_slice-load-items.result.now _ are c.in_ok-loads.ensures.passes in
    loads_file c.args.file.now c.as_slice-load-items.result.now all c.loop-load.load-index (memory_of c.loop-load.map) (omega arith) c.loop-load.invariant
    c.in_ok-header.header.entry are
    (no_fault c.args.file.now c.in_ok-header.ensures.passes c.in_ok-loads.ensures.passes c.in_ok-header.header.entry c.in_ok-header.ensures.entry c.if-header-ne0.false c.if-header-ge-TOP.false)
    c.in_ok-header.ensures.entry
