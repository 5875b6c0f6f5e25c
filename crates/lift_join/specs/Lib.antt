pub mod Joins
pub mod Chained
pub mod Laws
