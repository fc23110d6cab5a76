pub mod Files
pub mod InMemory
