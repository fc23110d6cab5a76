pub mod Collected
pub mod Names
pub mod Given
pub mod TokensRead
pub mod Shown
mod DecimalWalk
