pub mod Inversion
pub mod Joining
pub mod Chained
pub mod Public
