-- What the contracts cite.
pub mod Worked
