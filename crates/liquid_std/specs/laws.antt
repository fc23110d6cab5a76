pub mod TagLaws
pub mod BlockLaws
pub mod Sandboxes
pub mod conditions
pub mod iteration
pub mod inclusion
pub mod marks
