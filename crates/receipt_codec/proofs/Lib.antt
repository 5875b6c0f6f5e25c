pub mod Trees
pub mod Items
pub mod Seals
pub mod Entries
pub mod Wholes
pub mod Written
pub mod Public
