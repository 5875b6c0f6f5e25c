use Rattle.std.proofs.Common.{◌^◌, ap, ◌∙◌}
use Rattle.page_core.specs.Memory.{bytes}
use Rattle.rv_step.specs.Machine.{sign_extension}
use Rattle.rv_step.proofs.doing.load_value.Goals as goal

pub returns-in-Lb : goal.returns-in-Lb
unfolding bytes
returns-in-Lb g c = rw c.in-Lb.is (c.sign_extended.ensures ∙ ap (sign_extension (2 ^ 7)) (c.from.ensures ∙ c.load_byte.ensures))

pub returns-in-Lbu : goal.returns-in-Lbu
unfolding bytes
returns-in-Lbu g c = rw c.in-Lbu.is (c.from-in-Lbu.ensures ∙ c.load_byte-in-Lbu.ensures)
