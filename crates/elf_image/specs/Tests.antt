-- The fifteen tests of an ELF file, in their order.
use Rattle.std.specs.Prelude.{ℕ, ◌+◌, ◌*◌, ◌%◌, Bool, not, ◌&&◌, ◌||◌, leb, ltb, ◌==◌, if◌then◌else◌, List, [], ◌∷◌, ◌++◌, length, take, Option, Some, None}
use Rattle.std.specs.List.{list_any}
use Rattle.std.specs.Str.{bytes_eq}
use Rattle.page_core.specs.Memory.{top}
use Rattle.elf_image.specs.declared.headers.LoadHeader.{LoadHeader}
use Rattle.elf_image.specs.declared.stop.ElfStop.{ElfStop}
use Rattle.elf_image.specs.declared.stop.ElfStop.TheVariants.{Short, Magic, Class, Order, Version, FileType, Machine, HeaderSize, TooManyHeaders, HeaderRange, FileRange, SizeOrder, AddressRange, Overlap, Entry}
use Rattle.elf_image.specs.Fields.{byte_at, half_at, word_at}
use Rattle.elf_image.specs.Headers.{entry_of, headers_at, header_count, loads_of}

-- whether the file passes, and the fault where it doesn't
pub record Test : Type 0 where
  pub passes : Bool
  pub fault : ElfStop

abbrev pub test : Bool → ElfStop → Test
test passes fault = record { passes = passes; fault = fault }

-- the file's header
abbrev pub header_tests : List ℕ → List Test
header_tests file =
    test (leb 52 (length file)) Short
    ∷ test (bytes_eq (take 4 file) (0x7F ∷ 0x45 ∷ 0x4C ∷ 0x46 ∷ [])) Magic
    ∷ test (byte_at file 4 == 1) Class
    ∷ test (byte_at file 5 == 1) Order
    ∷ test (byte_at file 6 == 1 && word_at file 20 == 1) Version
    ∷ test (half_at file 16 == 2) FileType
    ∷ test (half_at file 18 == 243) Machine
    ∷ test (header_count file == 0 || half_at file 42 == 32) HeaderSize
    ∷ test (leb (header_count file) 64) TooManyHeaders
    ∷ test (header_count file == 0 || leb (headers_at file + 32 * header_count file) (length file)) HeaderRange
    ∷ []

-- whether an address is one of the memory of both
abbrev pub meets : LoadHeader → LoadHeader → Bool
meets a b =
    not (a.memory_size == 0) && not (b.memory_size == 0)
    && ltb a.address (b.address + b.memory_size) && ltb b.address (a.address + a.memory_size)

-- one load header, after others
abbrev pub load_tests : List ℕ → List LoadHeader → LoadHeader → List Test
load_tests file earlier load =
    test (load.file_size == 0 || leb (load.offset + load.file_size) (length file)) FileRange
    ∷ test (leb load.file_size load.memory_size) SizeOrder
    ∷ test (load.memory_size == 0 || leb (load.address + load.memory_size) top) AddressRange
    ∷ test (not (list_any (meets load) earlier)) Overlap
    ∷ []

-- each load header, all four tests of one before the next
unfoldable pub all_load_tests : List ℕ → List LoadHeader → List LoadHeader → List Test
all_load_tests file earlier [] = []
all_load_tests file earlier (load ∷ loads) = load_tests file earlier load ++ all_load_tests file (earlier ++ (load ∷ [])) loads

abbrev pub entry_test : List ℕ → List Test
entry_test file = test (entry_of file % 4 == 0 && ltb (entry_of file) top) Entry ∷ []

abbrev pub tests : List ℕ → List Test
tests file = header_tests file ++ (all_load_tests file [] (loads_of file) ++ entry_test file)

-- the fault of the first test that fails
abbrev pub first_fault : List Test → Option ElfStop
first_fault [] = None
first_fault (t ∷ ts) = if t.passes then first_fault ts else Some t.fault

abbrev pub elf_fault : List ℕ → Option ElfStop
elf_fault file = first_fault (tests file)
