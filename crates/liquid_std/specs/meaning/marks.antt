pub mod Marks
pub mod Held
pub mod Groups
pub mod Cycles
pub mod Changes
