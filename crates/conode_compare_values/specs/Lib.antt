pub mod HeldNumbers
pub mod HeldWords
pub mod RpdoWrites
pub mod SheetValues
