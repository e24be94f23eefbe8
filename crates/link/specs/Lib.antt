-- What the contracts cite.
pub mod Link
pub mod History
pub mod Sampling
pub mod Delivery
pub mod Fit
pub mod Acts
pub mod Judging
