use Rattle.zk_rows.proofs.memory_tree.updated_text.Given as goal

-- nothing is counted
abbrev pub ghosts-updated_tree : goal.ghosts-updated_tree
ghosts-updated_tree g a = record { name = a.blank.name; parts = a.blank.parts }
