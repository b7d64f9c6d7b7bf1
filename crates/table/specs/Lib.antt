-- What the table's entries say.
pub mod Entries
