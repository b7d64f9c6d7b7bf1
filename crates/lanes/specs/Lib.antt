-- Channels' masks, values and sizes in numbers, and their laws.
pub mod Masks
pub mod BitLaws
pub mod MaskLaws
pub mod FlagLaws
pub mod VoteLaws
pub mod Sizes
pub mod Values
pub mod Mapped
pub mod Served
