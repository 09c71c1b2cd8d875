pub mod Rounds
pub mod Blocks
pub mod ShortProof
pub mod Buffers
pub mod Kept
