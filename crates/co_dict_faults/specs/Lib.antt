pub mod AllBuildFaults
pub mod BuildFaultLaws
pub mod MappingReasons
pub mod SoundPlans
