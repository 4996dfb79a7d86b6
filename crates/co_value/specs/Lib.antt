pub mod Keys
pub mod KeyTexts
pub mod Types
pub mod Numbers
pub mod ValueFaults
