-- What packing does in the code's terms, and the laws that join it to the paper's.
pub mod Forms
pub mod Pieces
pub mod Stages
pub mod Keeping
pub mod Rewriting
pub mod Written
pub mod Answers
