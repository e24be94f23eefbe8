-- What the contracts cite.
pub mod Rings
pub mod Queues
pub mod Soundness
