-- What the contracts cite.
pub mod Captures
