-- Laws that only this crate's proofs cite.
pub mod Shortening
pub mod Calling
