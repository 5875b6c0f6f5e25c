-- The lines of files. A line ends with one line feed; counts are decimal, digests lower-case hexadecimal.
use Rattle.std.specs.Prelude.{ℕ, List, ◌++◌, codes, decimal}
use Rattle.digest_core.specs.Text.{digest_text}
use Rattle.elf_image.specs.declared.stop.ElfStop.{ElfStop}
use Rattle.elf_image.specs.Text.{elf_text}
use Rattle.cli_text.specs.Lines.{line}

abbrev pub no_file_lines : List ℕ → List ℕ
no_file_lines name = line (codes "no-file " ++ name)

abbrev pub too_long_lines : List ℕ → List ℕ
too_long_lines name = line (codes "too-long " ++ name)

-- the first test that an ELF file fails
abbrev pub bad_elf_lines : ElfStop → List ℕ
bad_elf_lines stop = line (codes "bad elf " ++ elf_text stop)

-- an input file of so many bytes, which are no whole words
abbrev pub bad_input_lines : ℕ → List ℕ
bad_input_lines length = line (codes "bad-input " ++ decimal length)

-- the id of the image that an ELF file loads
abbrev pub id_lines : List ℕ → List ℕ
id_lines id = line (codes "id " ++ digest_text id)
