-- What the code's flags and patterns are in the paper's terms, and what legality gives for them.
pub mod Stores
pub mod Readable
pub mod Results
pub mod Stored
pub mod Compared
pub mod Effects
pub mod Awake
pub mod Single
pub mod Floats
