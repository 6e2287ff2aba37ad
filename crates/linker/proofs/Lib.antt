pub mod LinkedText
pub mod LinkedOver
pub mod Examples
