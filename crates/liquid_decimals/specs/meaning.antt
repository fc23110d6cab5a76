pub mod Arithmetic
pub mod Dec
pub mod Rounding
pub mod Text
pub mod Written
