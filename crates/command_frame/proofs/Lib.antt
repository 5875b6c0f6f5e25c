pub mod After
pub mod AnswerPut
pub mod Causes
pub mod Whole
pub mod Unread
pub mod Collided
pub mod Public
