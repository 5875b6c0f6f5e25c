-- How a claim is stored: as its fields.
use Rattle.std.specs.Prelude.{ℕ, List}
use Rattle.std.specs.Coded.{Coded, code_by, coded×, coded_ℕ, coded_list}
use Rattle.std.proofs.Common.{refl}
use Rattle.host_calls.specs.declared.call.AssumeCall.{AssumeCall}
use Rattle.host_calls.specs.contracts.call.AssumeCall as assume_call
use Rattle.claim_types.specs.declared.claim.Exit.{Exit}
use Rattle.claim_types.specs.contracts.claim.Exit as exit
use Rattle.claim_types.specs.declared.state.State.{State as SystemState}
use Rattle.claim_types.specs.contracts.state.State as state
use Rattle.claim_types.specs.Claims.{SpanClaim}

abbrev pub claim_code : Coded SpanClaim
claim_code =
    code_by ((SystemState × SystemState) × (Exit × (List ℕ × List AssumeCall)))
    (coded× (coded× state.the_row.coded state.the_row.coded) (coded× exit.the_row.coded (coded× (coded_list coded_ℕ) (coded_list assume_call.the_row.coded))))
    (λ c. ((c.before, c.after), (c.exit, (c.journal, c.calls))))
    (λ p. record { before = p.0.0; after = p.0.1; exit = p.1.0; journal = p.1.1.0; calls = p.1.1.1 })
    (λ _. refl)
