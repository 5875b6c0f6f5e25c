-- What an ELF file loads: an image.
use Rattle.std.specs.Prelude.{◌≡◌, ℕ, ◌+◌, ◌-◌, ◌<◌, ◌≤◌, Bool, ◌&&◌, leb, ltb, if◌then◌else◌, List, None, Contains}
use Rattle.page_core.specs.Images.{Image}
use Rattle.page_core.specs.Stored.{memory_of}
use Rattle.elf_image.specs.declared.headers.LoadHeader.{LoadHeader}
use Rattle.elf_image.specs.declared.image.Image.{Image as Loaded}
use Rattle.elf_image.specs.Fields.{byte_at}
use Rattle.elf_image.specs.Headers.{entry_of, loads_of}
use Rattle.elf_image.specs.Tests.{elf_fault}

-- the image that a loaded one stands for
abbrev pub image_of : Loaded → Image
image_of loaded = record { entry = loaded.entry; memory = memory_of loaded.map }

-- the address is one of the memory of a load header
abbrev pub Covers : LoadHeader → ℕ → Type 0
Covers load a = (load.address ≤ a) × (a < load.address + load.memory_size)

-- whether the byte there is one of the file's
abbrev pub in_file : LoadHeader → ℕ → Bool
in_file load a = leb load.address a && ltb a (load.address + load.file_size)

-- the byte there: the file's up to the file size, and zero from there on
abbrev pub loaded_byte : List ℕ → LoadHeader → ℕ → ℕ
loaded_byte file load a = if in_file load a then byte_at file (load.offset + (a - load.address)) else 0

-- no test fails, the entry is the file's, each byte is that of the load header that covers its address, and every other one is zero
pub record Loads (file : List ℕ) (image : Image) : Type 0 where
  pub passes : elf_fault file ≡ None
  pub entry : image.entry ≡ entry_of file
  pub covered : (load : LoadHeader) (a : ℕ) → Contains (loads_of file) load → Covers load a → image.memory a ≡ loaded_byte file load a
  pub rest : (a : ℕ) → ((load : LoadHeader) → Contains (loads_of file) load → Covers load a → ⊥) → image.memory a ≡ 0
