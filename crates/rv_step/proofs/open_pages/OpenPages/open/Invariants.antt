use Rattle.std.proofs.Common.{◌≡◌, ℕ, ◌+◌, ◌-◌, get_or, None, vec_len}
use Rattle.rv_step.proofs.open_pages.OpenPages.open.Given as goal

abbrev pub invariant-loop-self : goal.invariant-loop-self
invariant-loop-self l = (n : ℕ) → get_or l.self-inside.pages.items n None ≡ get_or l.initial.self-inside.pages.items n None

abbrev pub decreases-loop-self : goal.decreases-loop-self
decreases-loop-self l = l.place + 1 - vec_len l.self-inside.pages
