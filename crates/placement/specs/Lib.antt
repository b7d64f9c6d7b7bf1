-- What orders answer, on floats and by patterns.
pub mod Orders
pub mod Spots
