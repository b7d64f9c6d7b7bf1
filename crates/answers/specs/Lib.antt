-- Answers as one number: which numbers each call answers, what fits in the one number in which an answer crosses to C, that it can be taken apart again, and
-- that every call's answer fits; and that the calls inside Rattle have one outcome each.
pub mod Numbers
pub mod Small
pub mod Judging
pub mod Kernels
pub mod Calls
pub mod Logs
pub mod Listings
pub mod Placings
pub mod OneAnswer
