-- What the code's answers are in the paper's terms, and the laws that join them.
pub mod Judging
pub mod Standing
pub mod Reading
pub mod Instructions
pub mod Marks
pub mod Jumps
pub mod Accepting
pub mod Answers
pub mod Forward
