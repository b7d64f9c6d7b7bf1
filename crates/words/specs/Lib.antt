-- What the crate's types mean in the paper's terms, and laws that its proofs and its callers cite.
pub mod Operations
pub mod Asked
pub mod Words
pub mod Bytes
pub mod Fields
pub mod Refusals
pub mod Answer
pub mod Regions
pub mod Usual
pub mod Operands
pub mod Meaning
