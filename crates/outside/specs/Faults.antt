use Rattle.std.specs.Prelude.{ℕ, ◌+◌, ◌-◌, ◌^◌, ◌≤◌, min, Result, OnErr}

-- a count after one more; 2^64 - 1 is its last value
abbrev pub next_count : ℕ → ℕ
next_count count = min (count + 1) (2 ^ 64 - 1)

-- a count of faults rose, or stands at its last value
abbrev pub Rose : ℕ → ℕ → Type 0
Rose before now = next_count before ≤ now

-- a count of faults never falls, and a call fails only where it rose
pub record CountsFaults {T E : Type 0} (before now : ℕ) (result : Result T E) : Type 0 where
  pub kept : before ≤ now
  pub failed : OnErr result (Rose before now)

-- the counts of faults that a desk keeps
pub record FaultCounts : Type 0 where
  pub reads : ℕ
  pub writes : ℕ

-- before the first call
abbrev pub no_faults : FaultCounts
no_faults = record { reads = 0; writes = 0 }
