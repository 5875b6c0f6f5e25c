pub mod Codes
pub mod Splits
pub mod Places
