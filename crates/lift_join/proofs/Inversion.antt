-- Chains, taken apart.
use Rattle.std.proofs.Common.{◌≡◌, ℕ, Bool, true, false, cond, ◌&&◌, eqb, List, Option, Some, None, refl, sym}
use Rattle.std.specs.Prelude.{option_map}
use Rattle.std.specs.Str.{bytes_eq}
use Rattle.std.proofs.lemmas.Slice.Eq.{bytes_eq-Decides}
use Rattle.rv_step.specs.Machine.{State}
use Rattle.claim_types.specs.declared.claim.Exit.{Exit}
use Rattle.claim_types.specs.declared.claim.Exit.TheVariants.{Split, Halted as HaltedWith}
use Rattle.seal_replay.specs.Replay.{stop_of, ending}
use Rattle.seal_replay.specs.declared.stop.ReplayStop.{ReplayStop}
use Rattle.std.proofs.lemmas.Option.{same_Some}
use Rattle.claim_types.specs.declared.state.State.{State as SystemState}
use Rattle.claim_types.specs.Claims.{SpanClaim}
use Rattle.receipt_types.specs.Seals.{Seal}
use Rattle.seal_replay.specs.Claiming.{claim_at, unless, claim_of}
use Rattle.lift_join.specs.Joins.{same_state, is_split, joint_claim, join_both}
use Rattle.std.proofs.lemmas.Bool.{eqb-true}

-- ---- the claim of a seal
pub record HasClaim (H : List ℕ → List ℕ) (seal : Seal) (claim : SpanClaim) : Type 0 where
  pub exit : Exit
  pub state : State
  pub clean : stop_of seal ≡ None
  pub ends : ending seal ≡ Some (exit, state)
  pub is : claim ≡ claim_at H seal (exit, state)

unless_is : (H : List ℕ → List ℕ) (seal : Seal) (o : Option ReplayStop) (p : Option (Exit × State)) (claim : SpanClaim) → unless o (option_map (claim_at H seal) p) ≡ Some claim
    → (e : Exit × State) × (o ≡ None) × (p ≡ Some e) × (claim ≡ claim_at H seal e)
unless_is H seal None (Some e) claim h = (e, refl, refl, sym (same_Some (claim_at H seal e) claim h))
unless_is H seal None None claim h = absurd (cc)
unless_is H seal (Some stop) p claim h = absurd (cc)

pub has_claim : (H : List ℕ → List ℕ) (seal : Seal) (claim : SpanClaim) → claim_of H seal ≡ Some claim → HasClaim H seal claim
has_claim H seal claim h =
    let (e, clean, ends, is) = unless_is H seal (stop_of seal) (ending seal) claim h in
    record { exit = e.0; state = e.1; clean = clean; ends = ends; is = is }

-- ---- two claims that join
and_left : (a b : Bool) → (a && b) ≡ true → a ≡ true
and_left true b h = refl
and_left false b h = absurd (cc)

and_right : (a b : Bool) → (a && b) ≡ true → b ≡ true
and_right true b h = h
and_right false b h = absurd (cc)

cond_some : (b : Bool) (x y : SpanClaim) → cond b (Some x) None ≡ Some y → (b ≡ true) × (x ≡ y)
cond_some true x y h = (refl, same_Some x y h)
cond_some false x y h = absurd (cc)

split_tells : (exit : Exit) → is_split exit ≡ true → exit ≡ Split
split_tells Split h = refl
split_tells (HaltedWith code) h = absurd (cc)

pub states_same : (a b : SystemState) → a.pc ≡ b.pc → a.root ≡ b.root → a ≡ b
states_same a b p q = λ i. record { pc = p i; root = q i }

pub same_state_tells : (a b : SystemState) → same_state a b ≡ true → a ≡ b
same_state_tells a b h =
    states_same a b (eqb-true a.pc b.pc (and_left (eqb a.pc b.pc) (bytes_eq a.root b.root) h))
    ((bytes_eq-Decides a.root b.root).0 (and_right (eqb a.pc b.pc) (bytes_eq a.root b.root) h))

pub record Joins (a b : Option SpanClaim) (claim : SpanClaim) : Type 0 where
  pub left : SpanClaim
  pub right : SpanClaim
  pub is_left : a ≡ Some left
  pub is_right : b ≡ Some right
  pub split : left.exit ≡ Split
  pub meets : left.after ≡ right.before
  pub is : claim ≡ joint_claim left right

pub joins : (a b : Option SpanClaim) (claim : SpanClaim) → join_both a b ≡ Some claim → Joins a b claim
joins (Some x) (Some y) claim h =
    let (b, e) = cond_some (is_split x.exit && same_state x.after y.before) (joint_claim x y) claim h in
    record {
      left = x;
      right = y;
      is_left = refl;
      is_right = refl;
      split = split_tells x.exit (and_left (is_split x.exit) (same_state x.after y.before) b);
      meets = same_state_tells x.after y.before (and_right (is_split x.exit) (same_state x.after y.before) b);
      is = sym e;
    }
joins (Some x) None claim h = absurd (cc)
joins None b claim h = absurd (cc)
