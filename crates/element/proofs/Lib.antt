-- Laws of numbers held as v + 2^63.
pub mod Types
pub mod Operations
