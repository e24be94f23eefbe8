-- The lemmas that the proofs cite.
pub mod Reading
