pub mod CheckEndings
pub mod SheetTexts
