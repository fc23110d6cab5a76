pub mod Checkpoints
pub mod IsolatedFrames
pub mod Isolation
