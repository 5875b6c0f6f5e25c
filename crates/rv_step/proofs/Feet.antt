-- What a footprint contains.
use Rattle.std.proofs.Common.{◌≡◌, ℕ, ◌/◌, ◌<◌, ◌≤◌, Bool, true, false, cond, leb, eqb, List, [], ◌∷◌, refl, sym, subst, arith, inl, inr, ◌⊎◌, ⊎_elim}
use Rattle.std.specs.Prelude.{Contains}
use Rattle.std.proofs.lemmas.Bool.{eqb-true}
use Rattle.std.proofs.lemmas.Bool.Decides.{nat_tests, leb_tells}
use Rattle.page_core.specs.Memory.{top, ascending, without, Within}
use Rattle.page_core.proofs.Listed.{Contains-none, Contains-head, Contains-tail, Contains-cases}
use Rattle.page_core.proofs.Ascending.{Contains-ascending}
use Rattle.rv_step.specs.declared.act.Act.{Act}
use Rattle.rv_step.specs.Machine.{data_of, pages_of_all, State, foot_at, foot_of, act}

-- of the pages without one of them, only that one is gone
pub Contains-without : (c : ℕ) (qs : List ℕ) (p : ℕ) → Contains qs p → (p ≡ c) ⊎ Contains (without c qs) p
unfolding without
Contains-without c [] p h = absurd (Contains-none p h)
Contains-without c (q ∷ qs) p h = go (eqb c q) refl (Contains-cases p q qs h) (Contains-without c qs p)
  where
    go : (b : Bool) → eqb c q ≡ b → (p ≡ q) ⊎ Contains qs p → (Contains qs p → (p ≡ c) ⊎ Contains (without c qs) p)
        → (p ≡ c) ⊎ Contains (cond b (without c qs) (q ∷ without c qs)) p
    go true e (inl same) rest = inl (omega (arith, same, eqb-true c q e))
    go true e (inr tail) rest = rest tail
    go false e (inl same) rest = inr (Contains-head p q (without c qs) same)
    go false e (inr tail) rest = ⊎_elim (λ t. inl t) (λ t. inr (Contains-tail p q (without c qs) t)) (rest tail)

-- the footprint where the fetch is in range, and where it isn't
pub foot_at-in_range : (pc : ℕ) (a : Act) → pc < top
    → foot_at pc a ≡ 262143 ∷ pc / 1024 ∷ ascending (without (pc / 1024) (pages_of_all (data_of a)))
foot_at-in_range pc a h = let e : leb top pc ≡ false = grind (arith, nat_tests) in rw e refl

pub foot-in_range : (s : State) → s.pc < top
    → foot_of s ≡ 262143 ∷ s.pc / 1024 ∷ ascending (without (s.pc / 1024) (pages_of_all (data_of (act s))))
unfolding foot_of
foot-in_range s h = foot_at-in_range s.pc (act s) h

pub foot-out_of_range : (s : State) → top ≤ s.pc → foot_of s ≡ 262143 ∷ []
unfolding foot_of
foot-out_of_range s h = let e : leb top s.pc ≡ true = grind (arith, nat_tests) in rw e refl

-- the code page and each data page are in it
pub code_in_foot : (s : State) → s.pc < top → Contains (foot_of s) (s.pc / 1024)
code_in_foot s h = subst (λ ps. Contains ps (s.pc / 1024)) (sym (foot-in_range s h)) (1, omega arith, refl)

pub data_in_foot : (s : State) → s.pc < top → Within (pages_of_all (data_of (act s))) (foot_of s)
data_in_foot s h p is_in =
    let of_data : List ℕ = pages_of_all (data_of (act s)) in
    let others : List ℕ = ascending (without (s.pc / 1024) of_data) in
    subst (λ ps. Contains ps p) (sym (foot-in_range s h))
    (Contains-tail p 262143 (s.pc / 1024 ∷ others)
    (⊎_elim (λ t. Contains-head p (s.pc / 1024) others t) (λ t. Contains-tail p (s.pc / 1024) others (Contains-ascending (without (s.pc / 1024) of_data) p t))
    (Contains-without (s.pc / 1024) of_data p is_in)))

fetch_out : (s : State) → leb top s.pc ≡ true → pages_of_all (data_of (act s)) ≡ []
unfolding act pages_of_all
fetch_out s e = rw e refl

pub data_within : (s : State) → Within (pages_of_all (data_of (act s))) (foot_of s)
data_within s =
    ⊎_elim (λ t p h. absurd (Contains-none p (subst (λ (ps : List ℕ). Contains ps p) (fetch_out s t.0) h))) (λ t. data_in_foot s t.1) (leb_tells top s.pc)

-- the register page is in every footprint
pub foot_has_registers : (s : State) → Contains (foot_of s) 262143
unfolding foot_of
foot_has_registers s = go (leb top s.pc)
  where
    go : (b : Bool) → Contains (cond b (262143 ∷ []) (262143 ∷ s.pc / 1024 ∷ ascending (without (s.pc / 1024) (pages_of_all (data_of (act s)))))) 262143
    go true = (0, omega arith, refl)
    go false = (0, omega arith, refl)
