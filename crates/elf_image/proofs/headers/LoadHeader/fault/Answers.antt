use Rattle.std.proofs.Common.{◌≡◌, ◌+◌, ◌≤◌, ◌⊎◌, length, rules, tests}
use Rattle.std.proofs.lemmas.Iterator.{YieldsList-from_slice}
use Rattle.std.proofs.lemmas.Iterator.Search.{any_from_yields_List}
use Rattle.page_core.specs.Memory.{top}
use Rattle.elf_image.specs.Tests.{meets}
use Rattle.elf_image.proofs.Tested.{range_passes}
use Rattle.std.proofs.lemmas.Bool.{le-leb}
use Rattle.elf_image.proofs.headers.LoadHeader.fault.Goals as goal

pub returns : goal.returns
returns c =
    let load = c.args.self.now in
    let file : (load.file_size ≡ 0) ⊎ (load.offset + load.file_size ≤ length c.args.file.now) = search rules in
    let memory : (load.memory_size ≡ 0) ⊎ (load.address + load.memory_size ≤ top) = search rules in
    let any = any_from_yields_List (meets load) _ _ c.any.result c.any.ensures.ran (YieldsList-from_slice c.args.earlier.now cc) (λ x b q k. search (rules, tests)) in
    rw (
      range_passes load.file_size load.offset (length c.args.file.now) file,
      le-leb load.file_size load.memory_size c.if-self.false,
      range_passes load.memory_size load.address top memory,
      ← any,
      c.if-any.false,
    )
