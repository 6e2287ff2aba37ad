pub mod Day
pub mod Steps
pub mod Places
pub mod Examples
