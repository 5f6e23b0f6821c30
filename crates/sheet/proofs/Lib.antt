mod Entered
pub mod Edits
mod Passing
pub mod Within
