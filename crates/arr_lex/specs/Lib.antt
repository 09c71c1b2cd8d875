pub mod Agrees
pub mod Byte
pub mod Lexing
pub mod Moved
pub mod Blank
pub mod Spans
