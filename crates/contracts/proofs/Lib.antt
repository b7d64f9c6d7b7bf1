-- Theorems: what follows from the definitions of specs/.
pub mod OneOutcomeHolds
