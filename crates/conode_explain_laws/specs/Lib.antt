pub mod Recordings
pub mod Downloads
pub mod Uploads
pub mod Clients
