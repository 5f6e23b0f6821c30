pub mod Replies
pub mod Rules
pub mod Run
pub mod Law
pub mod Whole
