pub mod Form
pub mod Rules
pub mod Limits
pub mod Public
