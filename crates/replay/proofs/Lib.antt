mod Seeking
mod Lengths
mod Running
mod Starting
mod Tidy
mod Judging
mod Promising
mod Lawful
