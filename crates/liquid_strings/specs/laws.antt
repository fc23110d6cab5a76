pub mod Stripped
pub mod Words
