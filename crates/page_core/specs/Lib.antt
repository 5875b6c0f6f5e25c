pub mod Memory
pub mod Pages
pub mod Memories
pub mod Stored
pub mod Images
pub mod Laws
