pub mod Assembly
pub mod Generator
