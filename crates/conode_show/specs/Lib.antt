pub mod Members
pub mod JsonForm
pub mod Parts
pub mod Shown
pub mod Retyped
