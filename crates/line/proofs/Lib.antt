-- The lemmas that several proofs share.
pub mod Digits
pub mod Bits
