pub mod Source
pub mod Given
pub mod Transcript
