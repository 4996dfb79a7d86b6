pub mod AbortReasons
pub mod BuildFaultWords
