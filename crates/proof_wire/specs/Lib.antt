pub mod Forms
pub mod Spelling
pub mod Lists
pub mod Trouble
