pub mod Fields
pub mod Headers
pub mod Tests
pub mod Loaded
pub mod Text
