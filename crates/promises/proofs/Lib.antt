-- Theorems: what follows from the definitions of specs/.
pub mod RefusalsHold
pub mod AlikeHolds
pub mod RunningHolds
pub mod PairsHold
pub mod ChangesHold
pub mod FinishingHolds
pub mod ListingsHold
