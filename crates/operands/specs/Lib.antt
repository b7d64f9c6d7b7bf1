-- What is read of the registers, as numbers.
pub mod Reads
pub mod Shapes
pub mod Source
pub mod Sources
pub mod Single
pub mod Floats
