pub mod FullPages
pub mod Followed
pub mod Layered
pub mod RunFeet
pub mod RunPaid
pub mod RunSteps
pub mod RunQuick
pub mod Public
