-- What the code's channels and states are in the paper's terms, and the laws by which they move.
pub mod Together
pub mod Numbered
pub mod Channels
pub mod Posts
pub mod Branches
pub mod States
pub mod Steps
pub mod Posting
pub mod Ends
