pub mod Seals
pub mod Bundles
pub mod Limits
pub mod Grammar
pub mod Spelling
pub mod Laws
