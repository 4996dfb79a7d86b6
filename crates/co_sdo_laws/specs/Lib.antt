pub mod World
pub mod Undisturbed
pub mod Chains
