pub mod Making
pub mod Wrapping
