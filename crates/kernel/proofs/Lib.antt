-- Laws that only this crate's proofs cite.
pub mod Walking
pub mod Jumping
