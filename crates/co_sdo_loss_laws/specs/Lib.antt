pub mod Disturbed
