pub mod TagLaws
pub mod BlockLaws
pub mod Sandboxes
pub mod LoopRuns
