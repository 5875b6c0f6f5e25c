pub mod Accepted
pub mod Gathered
pub mod Keeping
pub mod Links
pub mod Placed
pub mod Places
pub mod Reported
