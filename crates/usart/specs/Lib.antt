-- What the contracts cite.
pub mod Usart
pub mod Table
