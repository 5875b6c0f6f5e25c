-- Several lines as they are written, and as they are defined.
use Rattle.std.proofs.Common.{◌≡◌, ℕ, List, [], ◌∷◌, ◌++◌, append_assoc}
use Rattle.std.specs.Prelude.{codes}
use Rattle.cli_text.specs.Lines.{line}

-- the lines that say what was proved, from what they tell
abbrev pub four : List ℕ → List ℕ → List ℕ → List ℕ → List ℕ
four code told claim conditional = line (codes "exit " ++ code) ++ line (codes "journal " ++ told) ++ line (codes "claim " ++ claim) ++ line (codes "conditional " ++ conditional)

-- and as they are written
abbrev pub four_text : List ℕ → List ℕ → List ℕ → List ℕ → List ℕ
four_text code told claim conditional =
    codes "exit " ++ code ++ codes "\njournal " ++ told ++ codes "\nclaim " ++ claim ++ codes "\nconditional " ++ conditional ++ codes "\n"

lines_of : (nl e j c d code told claim conditional : List ℕ)
    → e ++ code ++ (nl ++ j) ++ told ++ (nl ++ c) ++ claim ++ (nl ++ d) ++ conditional ++ nl
    ≡ ((e ++ code) ++ nl) ++ ((j ++ told) ++ nl) ++ ((c ++ claim) ++ nl) ++ ((d ++ conditional) ++ nl)
lines_of nl e j c d code told claim conditional = simp append_assoc

pub four_lines : (code told claim conditional : List ℕ) → four_text code told claim conditional ≡ four code told claim conditional
four_lines code told claim conditional = lines_of (10 ∷ []) (codes "exit ") (codes "journal ") (codes "claim ") (codes "conditional ") code told claim conditional

-- ---- and those that say how much it was
abbrev pub three : List ℕ → List ℕ → List ℕ → List ℕ
three count seals steps = line (codes "entries " ++ count) ++ line (codes "seals " ++ seals) ++ line (codes "steps " ++ steps)

abbrev pub three_text : List ℕ → List ℕ → List ℕ → List ℕ
three_text count seals steps = codes "entries " ++ count ++ codes "\nseals " ++ seals ++ codes "\nsteps " ++ steps ++ codes "\n"

parts_of : (nl n s t count seals steps : List ℕ)
    → n ++ count ++ (nl ++ s) ++ seals ++ (nl ++ t) ++ steps ++ nl ≡ ((n ++ count) ++ nl) ++ ((s ++ seals) ++ nl) ++ ((t ++ steps) ++ nl)
parts_of nl n s t count seals steps = simp append_assoc

pub three_lines : (count seals steps : List ℕ) → three_text count seals steps ≡ three count seals steps
three_lines count seals steps = parts_of (10 ∷ []) (codes "entries ") (codes "seals ") (codes "steps ") count seals steps

-- ---- the lines of a run that halted
abbrev pub five : List ℕ → List ℕ → List ℕ → List ℕ → List ℕ → List ℕ
five code steps cycles journal assumptions =
    line (codes "halted " ++ code) ++ line (codes "steps " ++ steps) ++ line (codes "cycles " ++ cycles) ++ line (codes "journal " ++ journal) ++ line (codes "assumptions " ++ assumptions)

abbrev pub five_text : List ℕ → List ℕ → List ℕ → List ℕ → List ℕ → List ℕ
five_text code steps cycles journal assumptions =
    codes "halted " ++ code ++ codes "\nsteps " ++ steps ++ codes "\ncycles " ++ cycles ++ codes "\njournal " ++ journal ++ codes "\nassumptions " ++ assumptions ++ codes "\n"

five_parts : (nl h s y j n code steps cycles journal assumptions : List ℕ)
    → h ++ code ++ (nl ++ s) ++ steps ++ (nl ++ y) ++ cycles ++ (nl ++ j) ++ journal ++ (nl ++ n) ++ assumptions ++ nl
    ≡ ((h ++ code) ++ nl) ++ ((s ++ steps) ++ nl) ++ ((y ++ cycles) ++ nl) ++ ((j ++ journal) ++ nl) ++ ((n ++ assumptions) ++ nl)
five_parts nl h s y j n code steps cycles journal assumptions = simp append_assoc

pub five_lines : (code steps cycles journal assumptions : List ℕ) → five_text code steps cycles journal assumptions ≡ five code steps cycles journal assumptions
five_lines code steps cycles journal assumptions =
    five_parts (10 ∷ []) (codes "halted ") (codes "steps ") (codes "cycles ") (codes "journal ") (codes "assumptions ") code steps cycles journal assumptions

-- ---- the lines of a generated guest, before those of its receipt
abbrev pub made : List ℕ → List ℕ → List ℕ → List ℕ → List ℕ → List ℕ → List ℕ
made number size elf words cycles rest =
    line (codes "generated " ++ number ++ codes " " ++ size) ++ line (codes "elf " ++ elf) ++ line (codes "input " ++ words) ++ line (codes "cycles " ++ cycles) ++ rest

abbrev pub made_text : List ℕ → List ℕ → List ℕ → List ℕ → List ℕ → List ℕ → List ℕ
made_text number size elf words cycles rest =
    codes "generated " ++ number ++ codes " " ++ size ++ codes "\nelf " ++ elf ++ codes "\ninput " ++ words ++ codes "\ncycles " ++ cycles ++ codes "\n" ++ rest

made_parts : (nl g sp e w y number size elf words cycles rest : List ℕ)
    → g ++ number ++ sp ++ size ++ (nl ++ e) ++ elf ++ (nl ++ w) ++ words ++ (nl ++ y) ++ cycles ++ nl ++ rest
    ≡ ((g ++ number ++ sp ++ size) ++ nl) ++ ((e ++ elf) ++ nl) ++ ((w ++ words) ++ nl) ++ ((y ++ cycles) ++ nl) ++ rest
made_parts nl g sp e w y number size elf words cycles rest = simp append_assoc

pub made_lines : (number size elf words cycles rest : List ℕ) → made_text number size elf words cycles rest ≡ made number size elf words cycles rest
made_lines number size elf words cycles rest =
    made_parts (10 ∷ []) (codes "generated ") (codes " ") (codes "elf ") (codes "input ") (codes "cycles ") number size elf words cycles rest
