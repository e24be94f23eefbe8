-- The lemmas that the proofs cite.
pub mod Formats
pub mod Acts
