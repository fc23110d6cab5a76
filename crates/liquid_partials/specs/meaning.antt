pub mod Compiled
pub mod Each
pub mod Keeping
pub mod Kept
pub mod Pages
pub mod Rendered
pub mod Sources
pub mod Stores
