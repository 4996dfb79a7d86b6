pub mod SheetWordLemmas
mod SectionLineExamples
mod WordExamples
