pub mod Tree
pub mod Part
pub mod Codes
pub mod Views
pub mod Canonical
pub mod Splits
pub mod Laws
