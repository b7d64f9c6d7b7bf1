-- Theorems: what follows from the definitions of specs/.
pub mod ForwardHolds
pub mod FinishHolds
pub mod PackingHolds
pub mod DemandsHold
pub mod PairsHold
