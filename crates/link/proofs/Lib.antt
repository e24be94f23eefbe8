-- The lemmas that several proofs share.
pub mod Left
pub mod InFrame
pub mod Agreeing
pub mod Grows
pub mod Rest
pub mod Reach
pub mod Kept
pub mod Clock
pub mod Invariant
pub mod Steps
pub mod Receives
pub mod Answered
pub mod Run
pub mod Fitting
pub mod Acts
pub mod Judging
pub mod Folding
