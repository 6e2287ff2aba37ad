pub mod Flags
pub mod Rounds
pub mod Calls
pub mod Answers
pub mod Closure
pub mod Texts
pub mod Claims
pub mod Examples
