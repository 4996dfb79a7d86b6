pub mod Endings
pub mod Messages
pub mod Written
pub mod LetOuts
pub mod TraceTexts
