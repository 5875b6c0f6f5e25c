-- Collisions of a digest function H.
use Rattle.std.specs.Prelude.{◌≡◌, ◌≢◌, ℕ, List, Contains}
use Rattle.digest_core.specs.Digests.{IsBytes}

-- the two strings are bytes, stand in the list, differ, and have one digest
pub record IsCollision (H : List ℕ → List ℕ) (xs : List (List ℕ)) (left right : List ℕ) : Type 0 where
  pub in_left : Contains xs left
  pub in_right : Contains xs right
  pub bytes_left : IsBytes left
  pub bytes_right : IsBytes right
  pub differ : left ≢ right
  pub same_digest : H left ≡ H right

-- two strings of the list are a collision
pub record Collides (H : List ℕ → List ℕ) (xs : List (List ℕ)) : Type 0 where
  pub left : List ℕ
  pub right : List ℕ
  pub is : IsCollision H xs left right
