pub mod Segments
pub mod Proving
pub mod Laws
pub mod Marked
pub mod Cutting
pub mod Giving
