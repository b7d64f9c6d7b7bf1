-- What hardware gave for pairs of floats, at which the definitions of `paper` are computed.
mod Pair
mod Hardware0
mod Hardware1
mod Hardware2
mod Hardware3
