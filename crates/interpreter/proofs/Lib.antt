pub mod Cells
pub mod Allowed
pub mod Loop
pub mod Runs
pub mod Claims
pub mod Examples
