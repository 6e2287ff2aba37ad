pub mod Linked
pub mod Into
pub mod Examples
