pub mod Effects
pub mod Copies
