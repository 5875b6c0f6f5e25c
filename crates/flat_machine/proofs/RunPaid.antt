-- What a look at a step and a paid step over a whole memory tell.
use Rattle.std.proofs.Common.{◌≡◌, ℕ, ◌%◌, ◌<◌, ◌≤◌, Bool, ltb, Option, Some, None, Result, Ok, Err, sym, ap, ◌∙◌, subst}
use Rattle.std.proofs.lemmas.Option.{none-some}
use Rattle.rv_isa.specs.declared.fault.Fault.{Fault}
use Rattle.rv_step.specs.Machine.{State, Went, Halted, Faulted, step_of, foot_of, step_cost}
use Rattle.rv_step.specs.declared.looking.Looked.{Looked}
use Rattle.rv_step.specs.declared.stepping.Event.TheVariants as E
use Rattle.rv_step.specs.declared.stepping.Paid.{Paid}
use Rattle.rv_step.specs.declared.stepping.StepStop.{StepStop}
use Rattle.rv_step.specs.declared.stepping.StepStop.TheVariants as S
use Rattle.rv_step.specs.Stepping.{unless_closed, fault_in, looked_of, IsStepOf, IsPaidStepOf}
use Rattle.flat_machine.proofs.RunFeet.{none_closed, none_closed_of_fetch}

-- each page of a memory is open
abbrev pub each_open : ℕ → Bool
each_open = λ page. ltb page 262144

-- what a look tells, where they are
abbrev shown : State → Looked
shown s = record { foot = foot_of s; cost = step_cost s; fault = fault_in (step_of s) }

module _ (s : State) (r : Result Looked ℕ) (answer : r ≡ looked_of each_open s) where
  seen : r ≡ Ok (shown s)
  seen = answer ∙ ap (λ (o : Option ℕ). unless_closed o (shown s)) (none_closed_of_fetch s)

  looked_is : (l : Looked) → r ≡ Ok l → l ≡ shown s
  looked_is l is = let both : Ok l ≡ Ok (shown s) = sym is ∙ seen in cc

  pub looked_foot : (l : Looked) → r ≡ Ok l → l.foot ≡ foot_of s
  looked_foot l is = ap (λ (l : Looked). l.foot) (looked_is l is)

  pub looked_cost : (l : Looked) → r ≡ Ok l → l.cost ≡ step_cost s
  looked_cost l is = ap (λ (l : Looked). l.cost) (looked_is l is)

  -- none is missed
  pub looked_never : (page : ℕ) → r ≡ Err page → ⊥
  looked_never page is = let both : Err page ≡ Ok (shown s) = sym is ∙ seen in cc

module _ (s t : State) (room : ℕ) (r : Result (Option Paid) StepStop) (answer : IsPaidStepOf each_open room s t r) where
  answered : (q : Result (Option Paid) StepStop) → r ≡ q → IsPaidStepOf each_open room s t q
  answered q is = subst (λ (q : Result (Option Paid) StepStop). IsPaidStepOf each_open room s t q) is answer

  pub paid_cost : (p : Paid) → r ≡ Ok (Some p) → p.cost ≡ step_cost s
  paid_cost p is = (answered (Ok (Some p)) is).0

  pub paid_room : (p : Paid) → r ≡ Ok (Some p) → step_cost s ≤ room
  paid_room p is = (answered (Ok (Some p)) is).1

  pub paid_went : (p : Paid) → r ≡ Ok (Some p) → p.event ≡ E.Went → step_of s ≡ Went t
  paid_went p is went = (subst (λ e. IsStepOf each_open s t (Ok e)) went (answered (Ok (Some p)) is).2).1

  pub paid_halted : (p : Paid) (code : ℕ) → r ≡ Ok (Some p) → p.event ≡ E.Halted code → (step_of s ≡ Halted code) × (t ≡ s)
  paid_halted p code is halted = (subst (λ e. IsStepOf each_open s t (Ok e)) halted (answered (Ok (Some p)) is).2).1

  pub too_dear : r ≡ Ok None → (room < step_cost s) × (t ≡ s)
  too_dear is = let (shut, dear, same) = answered (Ok None) is in (dear, same)

  pub paid_fault : (fault : Fault) → r ≡ Err (S.Fault fault) → (step_cost s ≤ room) × (step_of s ≡ Faulted fault) × (t ≡ s)
  paid_fault fault is = let (keeps, told) = answered (Err (S.Fault fault)) is in (keeps, told.1.0, told.1.1)

  pub no_memory : r ≡ Err S.Memory → t ≡ s
  no_memory is = (answered (Err S.Memory) is).1

  -- none is missed
  pub no_miss : (page : ℕ) → s.pc % 4 ≡ 0 → r ≡ Err (S.Miss page) → ⊥
  no_miss page aligned is = none-some page (sym (none_closed s aligned) ∙ (answered (Err (S.Miss page)) is).0)
