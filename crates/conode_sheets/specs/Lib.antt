pub mod SectionLines
pub mod SheetTexts
pub mod SheetWords
