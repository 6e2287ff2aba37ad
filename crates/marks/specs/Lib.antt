pub mod Marks
pub mod Formats
