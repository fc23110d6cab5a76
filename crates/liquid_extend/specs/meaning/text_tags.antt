pub mod Sense
pub mod Nodes
pub mod Tags
