pub mod Check
pub mod Audit
pub mod Id
pub mod Inspect
pub mod Top
