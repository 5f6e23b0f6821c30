pub mod Links
pub mod Offers
pub mod Closing
pub mod Answered
pub mod Same
