pub mod Layers
pub mod Going
pub mod Following
