pub mod Bytes
mod Reading
mod Packing
mod Examples
mod KeyLemmas
