pub mod Proved
pub mod Laws
