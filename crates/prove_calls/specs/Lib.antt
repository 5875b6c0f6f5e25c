pub mod Guest
pub mod Exec
pub mod Others
pub mod Prove
pub mod Proofs
pub mod Generate
pub mod Generating
pub mod Top
