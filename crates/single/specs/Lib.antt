-- The table of restricted floats.
pub mod Patterns
