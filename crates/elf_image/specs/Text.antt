-- The text of a test that an ELF file fails.
use Rattle.std.specs.Prelude.{ℕ, List, [], codes}
use Rattle.elf_image.specs.declared.stop.ElfStop.{ElfStop}
use Rattle.elf_image.specs.declared.stop.ElfStop.TheVariants.{Short, Magic, Class, Order, Version, FileType, Machine, HeaderSize, TooManyHeaders, HeaderRange, FileRange, SizeOrder, AddressRange, Overlap, Entry, Memory}

-- its number and its text; want of memory is no test and has no text
abbrev pub elf_text : ElfStop → List ℕ
elf_text Short = codes "1 short"
elf_text Magic = codes "2 magic"
elf_text Class = codes "3 class"
elf_text Order = codes "4 order"
elf_text Version = codes "5 version"
elf_text FileType = codes "6 type"
elf_text Machine = codes "7 machine"
elf_text HeaderSize = codes "8 header-size"
elf_text TooManyHeaders = codes "9 too-many-headers"
elf_text HeaderRange = codes "10 header-range"
elf_text FileRange = codes "11 file-range"
elf_text SizeOrder = codes "12 size-order"
elf_text AddressRange = codes "13 address-range"
elf_text Overlap = codes "14 overlap"
elf_text Entry = codes "15 entry"
elf_text Memory = []
