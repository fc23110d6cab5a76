pub mod ItemKeys
pub mod Own
pub mod Choosing
pub mod Ordering
pub mod Grouping
