-- What the code's distances and targets are in the paper's terms, and the laws that join them.
pub mod Reach
pub mod Distances
pub mod Halves
