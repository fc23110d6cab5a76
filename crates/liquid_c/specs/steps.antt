pub mod Jekyll
pub mod Chosen
pub mod Prepared
