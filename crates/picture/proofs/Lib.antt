-- The lemmas that the proofs cite.
pub mod Rest
pub mod Clocks
pub mod Listing
