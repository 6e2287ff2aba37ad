pub mod Loop
pub mod Held
pub mod Operands
pub mod Turns
pub mod Ready
