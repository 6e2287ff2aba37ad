pub mod Drafts
pub mod Following
