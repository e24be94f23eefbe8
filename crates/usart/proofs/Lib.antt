-- The lemmas that several proofs share.
pub mod Distance
pub mod Samples
pub mod Table
pub mod Rows
