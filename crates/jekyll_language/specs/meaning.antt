pub mod Plugins
pub mod Languages
pub mod Rendered
pub mod Site
pub mod expressions
