-- What the comparison finds, in the code's terms, and the laws that join it to the paper's.
pub mod Halves
pub mod Straight
pub mod Comparing
pub mod Answers
