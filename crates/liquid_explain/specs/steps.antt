pub mod Farther
pub mod Opened
