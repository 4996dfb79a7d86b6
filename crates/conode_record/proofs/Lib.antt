pub mod Examples
pub mod FieldNumbers
pub mod SpelledContents
pub mod SpelledFields
pub mod SpelledLines
pub mod Bytes
pub mod PartExamples
pub mod OnLines
