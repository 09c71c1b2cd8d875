pub mod First
pub mod Truth
pub mod Audit
pub mod Found
pub mod Leaves
