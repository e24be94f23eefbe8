-- What the contracts cite.
pub mod Drawing
pub mod Scanning
pub mod Runs
