-- What the contracts cite.
pub mod Bytes
pub mod Modes
pub mod Transmitting
pub mod Receiving
pub mod Pairs
pub mod Chips
pub mod Acts
pub mod Laws
