mod Written
mod Taken
mod Body
mod Closed
mod Filled
mod Entered
mod Faithful
mod Worked
pub mod Fields
