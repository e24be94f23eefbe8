-- The lemmas that several proofs share.
pub mod Shifting
pub mod Entries
pub mod InFrame
pub mod Held
pub mod Speaking
pub mod Arriving
pub mod Reading
pub mod Sampling
pub mod Tables
pub mod Quiet
