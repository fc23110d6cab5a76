pub mod conditions
pub mod iteration
pub mod inclusion
