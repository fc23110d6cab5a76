pub mod Digits
pub mod Filters
pub mod Rounding
pub mod Units
