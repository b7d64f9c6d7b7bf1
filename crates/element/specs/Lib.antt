-- How the code holds whole numbers, and what its functions ask of them.
pub mod Biased
pub mod Base
pub mod Operands
