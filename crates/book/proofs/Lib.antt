pub mod Examples
pub mod Refusals
pub mod Store
pub mod Sessions
pub mod History
pub mod Demand3
