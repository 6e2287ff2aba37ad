pub mod Taking
pub mod Exits
pub mod Scanning
