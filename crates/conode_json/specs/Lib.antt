pub use Rattle.conode_text.specs.Appended
pub mod Characters
pub mod Escapes
pub mod Members
pub mod Filled
