-- What the contracts cite.
pub mod Times
pub mod Timed
pub mod Sender
pub mod Receiver
pub mod Runs
pub mod Shifts
pub mod BareSender
pub mod Samples
pub mod BareReceiver
pub mod Soundness
