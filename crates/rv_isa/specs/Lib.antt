pub mod Words
pub mod Arithmetic
pub mod Registers
pub mod Rows
pub mod Classes
pub mod Encoding
pub mod Text
