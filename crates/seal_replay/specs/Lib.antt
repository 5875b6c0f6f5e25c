pub mod Replay
pub mod Claiming
pub mod Laws
pub mod Replaying
pub mod Text
