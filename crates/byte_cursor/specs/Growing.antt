use Rattle.std.specs.Prelude.{ℕ, List, []}

-- what a list holds, and how many more items it takes without asking for memory
pub record Growing (T : Type 0) : Type 0 where
  pub items : List T
  pub spare : ℕ

-- an empty list, with no room made
abbrev pub no_items : {T : Type 0} → Growing T
no_items = record { items = []; spare = 0 }
