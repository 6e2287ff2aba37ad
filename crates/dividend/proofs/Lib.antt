pub mod Laws
pub mod Settled
pub mod Claims
pub mod Examples
