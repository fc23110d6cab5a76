pub mod Images
pub mod Isolating
