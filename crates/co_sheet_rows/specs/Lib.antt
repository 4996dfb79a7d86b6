pub mod FaultTexts
pub mod OutOfMemory
