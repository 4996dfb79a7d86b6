pub mod Commands
pub mod Choices
pub mod Tasks
pub mod Fields
pub mod Tables
