-- The lemmas that several proofs share.
pub mod Receiving
pub mod Rings
