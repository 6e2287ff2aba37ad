pub mod Reach
pub mod Rounds
pub mod Claims
pub mod Examples
pub mod Errors
