pub mod meaning
pub mod steps
