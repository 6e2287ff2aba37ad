pub mod FairCopy
pub mod Steps
pub mod Claims
pub mod Examples
