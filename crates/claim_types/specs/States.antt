-- States of the system: where a run stands, with the digest of its memory. H is the digest function.
use Rattle.std.specs.Prelude.{ℕ, List, [], ◌∷◌, replicate, codes}
use Rattle.digest_core.specs.Tagged.{tag_string}
use Rattle.page_core.specs.Images.{Image}
use Rattle.part_tree.specs.Tree.{root}
use Rattle.page_core.specs.Memories.{page_of}
use Rattle.claim_types.specs.declared.state.State.{State as SystemState}

unfoldable pub state_tag : List ℕ
state_tag = codes "seal.SystemState"

-- what is hashed for a state
abbrev pub state_string : (List ℕ → List ℕ) → SystemState → List ℕ
state_string H state = tag_string H state_tag (state.root ∷ []) (state.pc ∷ [])

abbrev pub state_digest : (List ℕ → List ℕ) → SystemState → List ℕ
state_digest H state = H (state_string H state)

-- 32 zero bytes
abbrev pub zero_digest : List ℕ
zero_digest = replicate 32 0

-- the fixed state after a halt
abbrev pub halted_state : SystemState
halted_state = record { pc = 0; root = zero_digest }

-- an image's first state
abbrev pub image_state : (List ℕ → List ℕ) → Image → SystemState
image_state H image = record { pc = image.entry; root = root H (page_of image.memory) }

-- what is hashed for an image, and its id
abbrev pub image_string : (List ℕ → List ℕ) → Image → List ℕ
image_string H image = state_string H (image_state H image)

abbrev pub image_id : (List ℕ → List ℕ) → Image → List ℕ
image_id H image = H (image_string H image)
