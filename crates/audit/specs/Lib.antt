pub mod Places
pub mod Answers
pub mod Walking
pub mod Laws
