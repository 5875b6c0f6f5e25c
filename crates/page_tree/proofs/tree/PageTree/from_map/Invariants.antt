use Rattle.page_tree.proofs.tree.PageTree.from_map.Given as goal

-- nothing is counted
abbrev pub ghosts-filled : goal.ghosts-filled
ghosts-filled g a = record { name = a.blank.name; parts = a.blank.parts }
