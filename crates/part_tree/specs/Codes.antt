-- How a part tree is told apart as plain data: its nodes in postorder, from which the tree is made again.
use Rattle.std.specs.Prelude.{◌≡◌, ℕ, List, [], ◌∷◌, ◌++◌}
use Rattle.std.specs.Coded.{Coded, code_by, coded×, coded_ℕ, coded_list}
use Rattle.std.proofs.Common.{zero, suc, refl, ap, ◌∙◌, append_assoc, append-nil, sym}
use Rattle.part_tree.specs.Part.{Part, pruned, branch, leaf}

-- 0 is a pruned digest, 1 a page, and 2 a branch
abbrev pub nodes : Part → List (ℕ × List ℕ)
nodes (pruned digest) = (0, digest) ∷ []
nodes (leaf page) = (1, page) ∷ []
nodes (branch left right) = nodes left ++ (nodes right ++ (2, []) ∷ [])

-- the trees so far, with a branch of the last two in their place
abbrev pub with_branch : List Part → List Part
with_branch [] = []
with_branch (right ∷ []) = right ∷ []
with_branch (right ∷ left ∷ trees) = branch left right ∷ trees

-- the trees so far, and one more node
abbrev pub with_node : ℕ → List ℕ → List Part → List Part
with_node zero bytes trees = pruned bytes ∷ trees
with_node (suc zero) bytes trees = leaf bytes ∷ trees
with_node (suc (suc n)) bytes trees = with_branch trees

abbrev pub trees_of : List (ℕ × List ℕ) → List Part → List Part
trees_of [] trees = trees
trees_of (node ∷ rest) trees = trees_of rest (with_node node.0 node.1 trees)

trees_of-nodes : (t : Part) (rest : List (ℕ × List ℕ)) (trees : List Part) → trees_of (nodes t ++ rest) trees ≡ trees_of rest (t ∷ trees)
trees_of-nodes (pruned digest) rest trees = refl
trees_of-nodes (leaf page) rest trees = refl
trees_of-nodes (branch left right) rest trees =
    ap (λ (xs : List (ℕ × List ℕ)). trees_of xs trees) (append_assoc (nodes left) (nodes right ++ (2, []) ∷ []) rest)
    ∙ trees_of-nodes left ((nodes right ++ (2, []) ∷ []) ++ rest) trees
    ∙ ap (λ (xs : List (ℕ × List ℕ)). trees_of xs (left ∷ trees)) (append_assoc (nodes right) ((2, []) ∷ []) rest)
    ∙ trees_of-nodes right ((2, []) ∷ rest) (left ∷ trees)

abbrev pub first_tree : List Part → Part
first_tree [] = pruned []
first_tree (t ∷ trees) = t

abbrev pub tree_from : List (ℕ × List ℕ) → Part
tree_from xs = first_tree (trees_of xs [])

pub tree_from-nodes : (t : Part) → tree_from (nodes t) ≡ t
tree_from-nodes t = ap (λ (xs : List (ℕ × List ℕ)). first_tree (trees_of xs [])) (sym (append-nil (nodes t))) ∙ ap first_tree (trees_of-nodes t [] [])

abbrev pub part_code : Coded Part
part_code = code_by (List (ℕ × List ℕ)) (coded_list (coded× coded_ℕ (coded_list coded_ℕ))) nodes tree_from tree_from-nodes
