pub mod Ints
pub mod Tables
pub mod Operands
pub mod Held
pub mod OperandsDecoding
