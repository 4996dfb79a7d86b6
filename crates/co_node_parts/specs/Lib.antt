pub mod NmtStates
pub mod Producers
pub mod Consumers
pub mod ConsumerTables
pub mod EmergencyQueues
pub mod RpdoSlots
