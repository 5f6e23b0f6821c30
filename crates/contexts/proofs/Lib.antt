mod Linking
mod Offering
mod Places
mod Closing
mod Promised
