-- What the contracts cite.
pub mod Settings
pub mod Drawing
pub mod Scanning
pub mod Fitting
pub mod Translating
pub mod Running
