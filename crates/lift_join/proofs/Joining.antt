-- Claims may be joined in any order.
use Rattle.std.proofs.Common.{◌≡◌, ◌≢◌, ℕ, Bool, true, false, cond, ◌&&◌, eqb, List, [], ◌∷◌, ◌++◌, Option, Some, None, refl, sym, ap, ap₂, ◌∙◌, arith, append_assoc}
use Rattle.std.specs.Str.{bytes_eq}
use Rattle.std.proofs.lemmas.Bool.Decides.{nat_tests}
use Rattle.std.proofs.lemmas.Slice.Eq.{bytes_eq-Decides}
use Rattle.claim_types.specs.declared.claim.Exit.TheVariants.{Split}
use Rattle.claim_types.specs.declared.state.State.{State as SystemState}
use Rattle.claim_types.specs.Claims.{SpanClaim}
use Rattle.receipt_types.specs.Seals.{Seal}
use Rattle.seal_replay.specs.Claiming.{claim_of}
use Rattle.lift_join.specs.Joins.{is_split, same_state, joint_claim, claim_join, join_both, chain_of}
use Rattle.lift_join.specs.Laws.{ChainsJoin}

joined_twice : (a b c : SpanClaim) → joint_claim (joint_claim a b) c ≡ joint_claim a (joint_claim b c)
joined_twice a b c = λ i. record {
  before = a.before;
  after = c.after;
  exit = c.exit;
  journal = append_assoc a.journal b.journal c.journal i;
  calls = append_assoc a.calls b.calls c.calls i;
}

some_three : (a b c : SpanClaim) → join_both (join_both (Some a) (Some b)) (Some c) ≡ join_both (Some a) (join_both (Some b) (Some c))
some_three a b c = go (is_split a.exit && same_state a.after b.before) (is_split b.exit && same_state b.after c.before) refl refl
  where
    go : (p q : Bool) → (is_split a.exit && same_state a.after b.before) ≡ p → (is_split b.exit && same_state b.after c.before) ≡ q
        → join_both (cond p (Some (joint_claim a b)) None) (Some c) ≡ join_both (Some a) (cond q (Some (joint_claim b c)) None)
    go true true e f =
        ap (λ (t : Bool). cond t (Some (joint_claim (joint_claim a b) c)) None) f ∙ ap Some (joined_twice a b c) ∙ sym (ap (λ (t : Bool). cond t (Some (joint_claim a (joint_claim b c))) None) e)
    go true false e f = ap (λ (t : Bool). cond t (Some (joint_claim (joint_claim a b) c)) None) f
    go false true e f = sym (ap (λ (t : Bool). cond t (Some (joint_claim a (joint_claim b c))) None) e)
    go false false e f = refl

none_right : (o : Option SpanClaim) → join_both o None ≡ None
none_right (Some a) = refl
none_right None = refl

pub any_order : (x y z : Option SpanClaim) → join_both (join_both x y) z ≡ join_both x (join_both y z)
any_order None y z = refl
any_order (Some a) None z = refl
any_order (Some a) (Some b) None = none_right (claim_join a b)
any_order (Some a) (Some b) (Some c) = some_three a b c

pub not_none : (x : Seal) (xs : List Seal) → x ∷ xs ≢ []
not_none x xs e = cc

pub chains_join : (H : List ℕ → List ℕ) → ChainsJoin H
chains_join H [] ys n m = absurd (n refl)
chains_join H (x ∷ xs) [] n m = absurd (m refl)
chains_join H (x ∷ []) (y ∷ ys) n m = refl
chains_join H (x ∷ next ∷ xs) (y ∷ ys) n m =
    ap (join_both (claim_of H x)) (chains_join H (next ∷ xs) (y ∷ ys) (not_none next xs) m)
    ∙ sym (any_order (claim_of H x) (chain_of H (next ∷ xs)) (chain_of H (y ∷ ys)))

-- ---- claims that follow one another join
pub test_bytes : (a b : List ℕ) → a ≡ b → bytes_eq a b ≡ true
test_bytes a b h = (bytes_eq-Decides a b).1 h

pub test_number : (m n : ℕ) → m ≡ n → eqb m n ≡ true
test_number m n h = grind (arith, nat_tests)

test_both : (p q : Bool) → p ≡ true → q ≡ true → (p && q) ≡ true
test_both p q h k = ap₂ (λ (a b : Bool). a && b) h k

pub test_state : (a b : SystemState) → a ≡ b → same_state a b ≡ true
test_state a b h =
    test_both (eqb a.pc b.pc) (bytes_eq a.root b.root) (test_number a.pc b.pc (ap (λ (s : SystemState). s.pc) h)) (test_bytes a.root b.root (ap (λ (s : SystemState). s.root) h))

pub join_some : (a b : SpanClaim) → a.exit ≡ Split → a.after ≡ b.before → claim_join a b ≡ Some (joint_claim a b)
join_some a b split meets =
    ap (λ (t : Bool). cond t (Some (joint_claim a b)) None)
    (test_both (is_split a.exit) (same_state a.after b.before) (ap is_split split) (test_state a.after b.before meets))

some_seals : (H : List ℕ → List ℕ) (xs : List Seal) (a : SpanClaim) → chain_of H xs ≡ Some a → xs ≢ []
some_seals H [] a h = absurd (cc)
some_seals H (x ∷ xs) a h = not_none x xs

pub chain_joined : (H : List ℕ → List ℕ) (xs ys : List Seal) (a b : SpanClaim) → chain_of H xs ≡ Some a → chain_of H ys ≡ Some b → a.exit ≡ Split → a.after ≡ b.before
    → chain_of H (xs ++ ys) ≡ Some (joint_claim a b)
chain_joined H xs ys a b left right split meets =
    chains_join H xs ys (some_seals H xs a left) (some_seals H ys b right) ∙ ap₂ join_both left right ∙ join_some a b split meets
