pub mod Chains
pub mod SoFar
pub mod Public
