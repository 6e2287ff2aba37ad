pub mod Decimals
pub mod Numerals
pub mod Ints
