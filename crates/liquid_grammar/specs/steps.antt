pub mod Steps
pub mod TokenSteps
pub mod Heads
pub mod BracketSteps
