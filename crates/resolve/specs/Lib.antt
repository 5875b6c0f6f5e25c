pub mod Bundling
pub mod Resolving
pub mod Parts
pub mod Laws
