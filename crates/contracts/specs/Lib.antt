-- What each exported call promises (Contracts), and that this leaves one outcome to each (OneOutcome). The calls that keep it are `spokeshaver`'s; what follows for
-- whoever makes them stands in the crate `promises`.
pub mod Contracts
pub mod OneOutcome
