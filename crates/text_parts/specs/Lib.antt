pub mod Bytes
pub mod Rules
pub mod Parts
pub mod Places
pub mod Exact
pub mod Listed
