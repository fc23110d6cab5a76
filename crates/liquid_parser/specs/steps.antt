pub mod Views
pub mod Built
pub mod Escaped
