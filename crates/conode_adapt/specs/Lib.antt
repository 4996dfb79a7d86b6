pub mod Listing
pub mod Written
pub mod NoSheet
