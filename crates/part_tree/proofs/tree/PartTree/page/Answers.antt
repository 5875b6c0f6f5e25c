use Rattle.std.proofs.Common.{sym, arith}
use Rattle.part_tree.specs.Views.{part}
use Rattle.part_tree.proofs.Pages.{page_at-elsewhere}
use Rattle.part_tree.proofs.tree.PartTree.page.Goals as goal

pub returns-else-number-lt-PAGES : goal.returns-else-number-lt-PAGES
returns-else-number-lt-PAGES c = sym (page_at-elsewhere 18 0 c.args.number (part c.args.self.now) c.requires (λ b. omega arith))
