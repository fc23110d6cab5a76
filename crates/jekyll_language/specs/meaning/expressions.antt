pub mod Reading
pub mod Chains
pub mod Items
pub mod Kinds
pub mod Groups
pub mod Plugins
pub mod Table
