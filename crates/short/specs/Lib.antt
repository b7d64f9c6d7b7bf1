-- What the crate's types mean in the paper's terms, and laws of the dictionary.
pub mod Ranges
pub mod Shorter
pub mod Sets
pub mod SetLaws
