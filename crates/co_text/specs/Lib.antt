pub mod Texts
pub mod HexPairs
pub mod Printed
