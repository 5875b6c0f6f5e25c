-- The usage line of each program.
use Rattle.std.specs.Prelude.{ℕ, List, codes}
use Rattle.cli_text.specs.Lines.{line}

abbrev pub check_usage_lines : List ℕ
check_usage_lines = line (codes "usage: zk_check check RECEIPT ID [JOURNALFILE] | audit RECEIPT ENTRY ELF | id ELF | inspect RECEIPT")

abbrev pub prove_usage_lines : List ℕ
prove_usage_lines =
    line (codes "usage: zk_prove prove ELF INPUT RECEIPT [CYCLES PAGES LIMIT WORKERS [OTHER...]] | exec ELF INPUT LIMIT | generate NUMBER SIZE CYCLES PAGES WORKERS")
