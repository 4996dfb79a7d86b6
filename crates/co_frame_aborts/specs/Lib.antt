pub mod AbortCodes
