pub mod LexingMarks
pub mod LexingSorts
pub mod Lexing
