pub mod ExampleNode
mod InputExamples
mod ErrorExamples
mod NmtExamples
mod HeartbeatExamples
mod EmergencyExamples
mod TpdoExamples
mod RpdoExamples
mod AppEventExamples
mod EdgeExamples
mod LoopExamples
