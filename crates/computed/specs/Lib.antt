-- Rows of calls that are lent a dictionary, worked out by hand and computed as those of `paper` are; and the one table of the bench sheet's rows.
mod Starred
mod Kernels
mod Forward
mod Pairs
mod Listings
pub mod Table
