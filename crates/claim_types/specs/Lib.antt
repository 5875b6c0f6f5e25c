pub mod States
pub mod Claims
pub mod Codes
pub mod Text
