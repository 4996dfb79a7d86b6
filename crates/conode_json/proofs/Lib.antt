pub use Rattle.conode_text.proofs.Appending
mod CharacterLemmas
pub mod EscapeLaws
pub mod DocumentLaws
mod FilledLaws
mod CharacterExamples
mod JsonExamples
mod MarkupExamples
