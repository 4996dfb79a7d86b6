pub mod Appended
pub mod Filled
pub mod Unseen
pub mod Values
