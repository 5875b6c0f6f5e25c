use Rattle.rv_step.proofs.page_marks.PageMarks.new.Goals as goal

pub returns : goal.returns
returns c = c.in_ok-marks.ensures.items_if_clones_equal (λ mark is. is)
