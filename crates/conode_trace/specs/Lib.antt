pub mod Clocks
pub mod Events
pub mod FrameLines
pub mod Grammar
pub mod Printed
pub mod TraceLaws
pub mod Traces
