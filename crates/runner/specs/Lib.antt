pub mod Figures
pub mod Examples
