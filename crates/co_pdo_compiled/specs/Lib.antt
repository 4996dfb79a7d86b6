pub mod CompiledMappings
pub mod SetEntries
