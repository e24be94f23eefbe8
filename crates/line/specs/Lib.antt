-- What the contracts cite.
pub mod Refusals
pub mod Levels
pub mod Frames
pub mod Formats
