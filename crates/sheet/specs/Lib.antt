pub mod Refusals
pub mod Rules
pub mod Slots
pub mod Edits
pub mod Passing
