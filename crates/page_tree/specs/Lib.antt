pub mod Blocks
pub mod Changes
pub mod Grown
pub mod Laws
