-- What the rows' bytes hold, what their text means, and how they come out.
pub mod Room
pub mod Text
pub mod Outcomes
pub mod Sizes
