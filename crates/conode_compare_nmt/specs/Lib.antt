pub mod EntriesInForce
pub mod Heartbeats
pub mod Leavings
pub mod States
pub mod OtherClients
pub mod Times
