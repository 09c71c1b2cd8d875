pub mod Changes
pub mod Held
pub mod Items
pub mod Turned
