pub mod Spelling
pub mod Lists
pub mod Trouble
pub mod Versions
pub mod Kinds
