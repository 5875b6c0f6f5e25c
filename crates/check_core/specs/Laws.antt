-- The theorems on bundles. H is the digest function.
use Rattle.std.specs.Prelude.{◌≡◌, ◌⊎◌, ◌↔◌, ℕ, List, Some, None, Contains}
use Rattle.digest_core.specs.Digests.{IsBytes}
use Rattle.host_calls.specs.declared.call.AssumeCall.{AssumeCall}
use Rattle.page_core.specs.Images.{Image, IsImage}
use Rattle.claim_types.specs.declared.state.State.{State as SystemState}
use Rattle.claim_types.specs.States.{state_digest, image_id}
use Rattle.receipt_types.specs.Bundles.{Bundle, IsBundle}
use Rattle.check_core.specs.Entries.{first_at}
use Rattle.check_core.specs.Judgement.{Accepts, first_stop}
use Rattle.check_core.specs.Hashed.{hashed_strings, compared_strings}
use Rattle.part_tree.specs.Splits.{Pair}
use Rattle.check_core.specs.Auditing.{audit_pair}
use Rattle.digest_core.specs.Collisions.{IsCollision, Collides}
use Rattle.check_core.specs.Vouching.{LinkedTo, Vouches, VouchesFor, Faithful}

-- an entry that agrees with an image's uncut run vouches for it
abbrev pub FaithfulVouches : (List ℕ → List ℕ) → Type 0
FaithfulVouches H = (B : Bundle) (id : List ℕ) (e : ℕ) (image : Image) → IsBundle B → IsImage image → Accepts H B id → Faithful H B e image → Vouches H B e image

-- an accepted bundle's entry vouches for each image that has the digest of the entry's first state, or two hashed strings collide
abbrev pub Headline : (List ℕ → List ℕ) → Type 0
Headline H = (B : Bundle) (id : List ℕ) (e : ℕ) (first : SystemState) (image : Image) → IsBundle B → IsImage image → Accepts H B id
    → first_at H B e ≡ Some first → state_digest H first ≡ image_id H image
    → Vouches H B e image ⊎ Collides H (hashed_strings H B image)

-- all that is hashed for a bundle and an image are bytes
abbrev pub HashedAreBytes : (List ℕ → List ℕ) → Type 0
HashedAreBytes H = (B : Bundle) (image : Image) (x : List ℕ) → IsBundle B → IsImage image → Contains (hashed_strings H B image) x → IsBytes x

-- what stands behind the headline, and what an audit exhibits: the entry agrees with the image's uncut run, or two hashed strings collide
abbrev pub FaithfulOrCollides : (List ℕ → List ℕ) → Type 0
FaithfulOrCollides H = (B : Bundle) (id : List ℕ) (e : ℕ) (first : SystemState) (image : Image) → IsBundle B → IsImage image → Accepts H B id
    → first_at H B e ≡ Some first → state_digest H first ≡ image_id H image
    → Faithful H B e image ⊎ Collides H (hashed_strings H B image)

-- a bundle is accepted exactly where nothing stops it
abbrev pub AcceptedUnstopped : (List ℕ → List ℕ) → Type 0
AcceptedUnstopped H = (B : Bundle) (id : List ℕ) → IsBundle B → (first_stop H B id ≡ None) ↔ Accepts H B id

-- what the calls of an accepted entry say: for each image that a call names, the linked entry's words make its uncut run halt with 0 and a journal of the call's digest, or hashed strings collide
abbrev pub CallsHold : (List ℕ → List ℕ) → Type 0
CallsHold H = (B : Bundle) (id : List ℕ) (call : AssumeCall) (link : ℕ) (image : Image) → IsBundle B → IsImage image → Accepts H B id
    → LinkedTo H B call link → image_id H image ≡ call.image
    → VouchesFor H B link image call ⊎ Collides H (hashed_strings H B image)

-- the audit is exact: it finds no pair exactly where the entry agrees with the image's uncut run, and each pair that it finds is a collision
abbrev pub AuditIsExact : (List ℕ → List ℕ) → Type 0
AuditIsExact H = (B : Bundle) (id : List ℕ) (e : ℕ) (first : SystemState) (image : Image) → IsBundle B → IsImage image → Accepts H B id
    → first_at H B e ≡ Some first → state_digest H first ≡ image_id H image
    → ((audit_pair H B e image ≡ None) ↔ Faithful H B e image) × ((pair : Pair) → audit_pair H B e image ≡ Some pair → IsCollision H (compared_strings H B image) pair.left pair.right)

-- what an audit compares is among what is hashed
abbrev pub ComparedAreHashed : (List ℕ → List ℕ) → Type 0
ComparedAreHashed H = (B : Bundle) (image : Image) (x : List ℕ) → Contains (compared_strings H B image) x → Contains (hashed_strings H B image) x
