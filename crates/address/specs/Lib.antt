-- What the code's addresses and settled words are in the paper's terms, and the laws that join them.
pub mod Bytes
pub mod Halves
pub mod Settling
