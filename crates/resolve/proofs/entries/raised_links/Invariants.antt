use Rattle.std.proofs.Common.{◌≡◌, ◌+◌, map, take}
use Rattle.resolve.proofs.entries.raised_links.Given as goal

abbrev pub invariant-loop-link : goal.invariant-loop-link
invariant-loop-link l = l.raised.items ≡ map (λ link. l.first + link) (take l.link-index l.links)
