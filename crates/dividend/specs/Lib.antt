pub mod Dividend
pub mod Claims
pub mod Examples
