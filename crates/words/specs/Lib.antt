-- What the contracts cite.
pub mod Commands
pub mod Names
pub mod Numbers
pub mod Options
pub mod Styles
