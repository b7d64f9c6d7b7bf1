-- What the code's answers and states are in the paper's terms, and the laws of an accepted kernel's steps.
pub mod Acting
pub mod Landing
pub mod Leading
pub mod Running
pub mod Kernels
pub mod Lent
pub mod Tables
pub mod Outcomes
pub mod Opening
pub mod Answers
