pub mod Table
pub mod Classes
pub mod Encoding
pub mod HexWords
pub mod Public
