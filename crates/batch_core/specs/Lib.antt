pub mod Copies
pub mod CopiedWiring
pub mod CopiedValues
pub mod BatchClaim
pub mod Examples
pub mod ListedInstances
