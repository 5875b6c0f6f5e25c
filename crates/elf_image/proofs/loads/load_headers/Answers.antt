use Rattle.std.proofs.Common.{◌≡◌, ℕ, ◌+◌, ◌*◌, ◌-◌, [], ◌∷◌, ◌++◌, Some, None, inr, rules, sym, ◌∙◌, subst, arith}
use Rattle.elf_image.specs.Headers.{load_at}
use Rattle.elf_image.specs.Tests.{first_fault, load_tests}
use Rattle.elf_image.proofs.Tested.{Tested, fault_of, none_tested, passed_over, passed_on, failed, all_found, all_passed}
use Rattle.elf_image.proofs.loads.load_headers.Goals as goal

pub loop-number-init : goal.loop-number-init
loop-number-init c =
    let header = c.args.header.now in
    let items : c.new-loads.result.items ≡ [] = search rules in
    subst (λ found. Tested c.args.file.now found (header.headers_at + 0) (header.header_count - 0)) (sym items)
    (none_tested c.args.file.now (header.headers_at + 0) (header.header_count - 0) (omega arith) (omega arith))

-- a header of another type is passed over
pub loop-number-preserved-then-word_at-ne-LOAD : goal.loop-number-preserved-then-word_at-ne-LOAD
loop-number-preserved-then-word_at-ne-LOAD c =
    let header = c.args.header.now in
    let number = c.loop-number.number in
    passed_over c.args.file.now c.loop-number.loads.items (header.headers_at + 32 * number) (header.header_count - number)
    (header.headers_at + 32 * (number + 1)) (header.header_count - (number + 1)) c.loop-number.invariant (omega arith) (omega arith)
    (λ is. c.if-word_at-ne-LOAD.true (c.word_at.ensures ∙ is))

-- the fault of a load header is the first of all
pub returns-in-Some-clause-fault : goal.returns-in-Some-clause-fault
returns-in-Some-clause-fault c =
    let header = c.args.header.now in
    let number = c.loop-number.number in
    let place : ℕ = header.headers_at + 32 * number in
    let fails : first_fault (load_tests c.args.file.now c.loop-number.loads.items (load_at c.args.file.now place)) ≡ Some c.in-Some.fault =
    fault_of c.args.file.now c.as_slice.result.now c.loop-number.loads.items c.load_at-load.result (load_at c.args.file.now place) c.fault.result
    c.fault.ensures (search rules) c.load_at-load.ensures ∙ c.in-Some.is in
    inr (failed c.args.file.now c.loop-number.loads.items place (header.header_count - number) (header.header_count - (number + 1)) c.in-Some.fault
    c.loop-number.invariant (omega arith) (sym c.word_at.ensures ∙ c.if-word_at-ne-LOAD.false) fails)

-- a load header that passes is added
pub loop-number-preserved : goal.loop-number-preserved
loop-number-preserved c =
    let header = c.args.header.now in
    let number = c.loop-number.number in
    let place : ℕ = header.headers_at + 32 * number in
    let passes : first_fault (load_tests c.args.file.now c.loop-number.loads.items (load_at c.args.file.now place)) ≡ None =
    fault_of c.args.file.now c.as_slice.result.now c.loop-number.loads.items c.load_at-load.result (load_at c.args.file.now place) c.fault.result
    c.fault.ensures (search rules) c.load_at-load.ensures ∙ c.in_default.is in
    let pushed : c.push.new.self.items ≡ c.loop-number.loads.items ++ (load_at c.args.file.now place ∷ []) = search rules in
    subst (λ items. Tested c.args.file.now items (header.headers_at + 32 * (number + 1)) (header.header_count - (number + 1))) (sym pushed)
    (passed_on c.args.file.now c.loop-number.loads.items place (header.header_count - number) (header.headers_at + 32 * (number + 1)) (header.header_count - (number + 1))
    c.loop-number.invariant (omega arith) (omega arith) (sym c.word_at.ensures ∙ c.if-word_at-ne-LOAD.false) passes)

pub returns-clause-loads : goal.returns-clause-loads
returns-clause-loads c =
    let header = c.args.header.now in
    let number = c.loop-number.number in
    all_found c.args.file.now c.loop-number.loads.items (header.headers_at + 32 * number) (header.header_count - number) c.loop-number.invariant (omega arith)

pub returns-clause-passes : goal.returns-clause-passes
returns-clause-passes c =
    let header = c.args.header.now in
    let number = c.loop-number.number in
    all_passed c.args.file.now c.loop-number.loads.items (header.headers_at + 32 * number) (header.header_count - number) c.loop-number.invariant (omega arith)
