pub mod meaning
pub mod laws
pub mod steps
