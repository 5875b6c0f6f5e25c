pub mod Digests
pub mod Collisions
pub mod Sha
pub mod Weak
pub mod Tagged
pub mod Text
