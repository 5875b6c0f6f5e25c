use Rattle.std.proofs.Common.{◌+◌, ◌≤◌, length, ◌∙◌, ⊎_elim}
use Rattle.std.proofs.lemmas.Result.{on_ok_weaker}
use Rattle.page_core.specs.Stored.{memory_of}
use Rattle.elf_image.proofs.Filled.{put_over}
use Rattle.elf_image.proofs.loader.copy.Goals as goal

-- the bytes are those that were put
pub returns : goal.returns
returns c =
    let within : c.args.load.now.offset + c.args.load.now.file_size ≤ length c.args.file.now =
    ⊎_elim (λ none. absurd (c.if-load-eq0.false none)) (λ within. within) c.requires.within in
    on_ok_weaker c.set_bytes.result
    (λ written a. written a ∙ put_over c.args.file.now c.args.load.now (memory_of c.args.map.now) a within) c.set_bytes.ensures.written
