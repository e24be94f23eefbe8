-- The lemmas that the proofs cite.
pub mod Convex
pub mod Dividing
