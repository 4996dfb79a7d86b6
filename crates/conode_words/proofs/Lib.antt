pub mod CommandLemmas
pub mod OnLiterals
pub mod TaskExamples
pub mod TaskLemmas
pub mod FieldLemmas
