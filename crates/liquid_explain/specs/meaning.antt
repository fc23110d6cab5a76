pub mod Parts
pub mod Misses
pub mod Farthest
pub mod Values
pub mod Filters
pub mod Tokens
pub mod Elements
