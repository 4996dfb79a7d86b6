pub mod NewestFrames
pub mod Breaches
pub mod Dialogues
pub mod Times
pub mod Timeouts
