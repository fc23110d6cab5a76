pub mod Division
pub mod Rounding
