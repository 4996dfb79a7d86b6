pub mod AbortByte
mod Branches
mod Parts
mod Requests
mod Responses
mod Spellable
mod Examples
