-- The load headers of an ELF file (ELF32, Program Header): those of type 1, PT_LOAD.
use Rattle.std.specs.Prelude.{ℕ, zero, suc, ◌+◌, ◌==◌, if◌then◌else◌, List, [], ◌∷◌}
use Rattle.elf_image.specs.declared.headers.LoadHeader.{LoadHeader}
use Rattle.elf_image.specs.Fields.{half_at, word_at}

-- where the guest begins, where the program headers stand, and how many there are
abbrev pub entry_of : List ℕ → ℕ
entry_of file = word_at file 24

abbrev pub headers_at : List ℕ → ℕ
headers_at file = word_at file 28

abbrev pub header_count : List ℕ → ℕ
header_count file = half_at file 44

-- the fields of the program header at a place: p_offset, p_vaddr, p_filesz and p_memsz
abbrev pub load_at : List ℕ → ℕ → LoadHeader
load_at file at = record {
  offset = word_at file (at + 4);
  address = word_at file (at + 8);
  file_size = word_at file (at + 16);
  memory_size = word_at file (at + 20);
}

-- the load headers among the n headers from a place on, of 32 bytes each
unfoldable pub loads_from : List ℕ → ℕ → ℕ → List LoadHeader
loads_from file at zero = []
loads_from file at (suc n) = if word_at file at == 1 then load_at file at ∷ loads_from file (at + 32) n else loads_from file (at + 32) n

-- all of them, in file order
abbrev pub loads_of : List ℕ → List LoadHeader
loads_of file = loads_from file (headers_at file) (header_count file)
