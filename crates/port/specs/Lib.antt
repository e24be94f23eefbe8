-- What the contracts cite.
pub mod Port
