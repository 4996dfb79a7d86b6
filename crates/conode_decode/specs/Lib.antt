pub mod DecodedTraces
pub mod Names
pub mod Numbers
pub mod SdoTexts
pub mod Services
pub mod Texts
