-- What the contracts cite.
pub mod Tolerance
pub mod Divider
pub mod Ways
