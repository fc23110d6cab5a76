pub mod Dates
pub mod string
pub mod number
