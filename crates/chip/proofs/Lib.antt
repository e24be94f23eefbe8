-- The lemmas that the proofs cite.
pub mod Clocks
pub mod Writes
pub mod EachBit
pub mod Tells
pub mod Rests
pub mod Stored
pub mod Speaks
pub mod Receives
