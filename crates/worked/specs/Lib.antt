-- Rows beside those of `paper`, worked out by hand and computed in the same way: steps and runs, and calls. They stand apart because they take long.
mod Calls
mod Floats
mod Hundred
pub mod Votes
pub mod Steps
pub mod Branches
pub mod Leaving
mod Addresses
