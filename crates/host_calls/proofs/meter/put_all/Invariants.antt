use Rattle.std.proofs.Common.{◌≡◌, ◌+◌, ◌≤◌, ◌++◌, drop, length, vec_len, vec_capacity}
use Rattle.page_core.specs.Memory.{ascending}
use Rattle.host_calls.proofs.meter.put_all.Given as goal

abbrev pub invariant-loop-page : goal.invariant-loop-page
invariant-loop-page l = record {
  ascends : ascending l.touched.items ≡ l.touched.items;
  room : vec_len l.touched + length l.pages ≤ vec_capacity l.touched + l.page-index;
  placed : ascending (drop l.page-index l.pages ++ l.touched.items) ≡ ascending (l.pages ++ l.initial.touched.items);
}
