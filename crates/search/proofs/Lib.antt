pub mod Chains
mod Filling
mod Waiting
mod Walking
mod Seeding
mod Least
mod Opening
pub mod Matching
mod Steps
mod Turns
mod Unwinding
pub mod Starting
mod Answering
pub mod Refusing
pub mod Promised
