pub mod Decimals
pub mod Errors
pub mod Numbers
pub mod Items
pub mod Parts
