-- Answers of reading in the paper's terms; laws of reading and writing a log.
pub mod Meaning
pub mod Rooms
pub mod Items
pub mod Records
pub mod Logs
pub mod Beginnings
pub mod Appends
pub mod Writing
pub mod Calls
