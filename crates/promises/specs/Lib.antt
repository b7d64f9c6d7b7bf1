-- What follows from the contracts of the exported calls. Promises states it, and the others prove it: demand 1 in OutcomesHold and RefusalsHold, demand 2 in PackingHolds (a
-- single word in WordsHold), demand 3 in RunningHolds (two kernels in AlikeHolds), a kernel that was sent in PairsHold, and logs in LogsHold.
-- Before states what passed before a request; PassedHolds proves it, of longer kernels LongerHolds.
-- Finishing states when a kernel must finish, and what a step may change; FinishingHolds proves it, of a step ChangesHold.
-- Listings states what holds of a kernel's listing and of what is read, and ListingsHold proves it.
-- Placements states where tiles go, by an order and by the fixed kernel, and PlacementsHold proves it.
-- RefusalsHold, AlikeHolds, RunningHolds, PairsHold, ChangesHold, FinishingHolds and ListingsHold stand in proofs/.
pub mod Promises
pub mod Before
pub mod Results
pub mod Words
pub mod Room
pub mod Stepping
pub mod Making
pub mod OutcomesHold
pub mod WordsHold
pub mod PackingHolds
pub mod Starts
pub mod PassedHolds
pub mod LongerHolds
pub mod Finishing
pub mod LogsHold
pub mod Listings
pub mod Placements
pub mod PlacementsHold
