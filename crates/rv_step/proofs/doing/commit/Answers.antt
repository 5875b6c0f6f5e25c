use Rattle.std.proofs.Common.{rules, ◌++◌, List, ℕ, ap, ◌∙◌}
use Rattle.page_core.specs.Memory.{bytes}
use Rattle.rv_step.proofs.Done.{commits_to, commits_none}
use Rattle.rv_step.proofs.doing.commit.Goals as goal

pub returns-then-count-eq0-clause-went : goal.returns-then-count-eq0-clause-went
returns-then-count-eq0-clause-went g c = λ tape.
    commits_none c.args.pointer c.args.count c.args.core.now c.go_on.new.core (g.B.Bus.byte_at c.args.bus.now) tape c.args.log.now c.if-count-eq0.true c.go_on.ensures

pub returns-clause-went : goal.returns-clause-went
returns-clause-went g c = λ tape.
    commits_to c.args.pointer c.args.count c.args.core.now c.go_on-2.new.core (g.B.Bus.byte_at c.args.bus.now) tape c.args.log.now c.commit.new.self
    (c.in_ok-commit.ensures.ok ∙ ap (λ (said : List ℕ). record { journal = c.args.log.now.journal ++ said; calls = c.args.log.now.calls }) (c.load_bytes.ensures ∙ ap (bytes (g.B.Bus.byte_at c.args.bus.now) c.args.pointer) (search rules)))
    c.go_on-2.ensures
