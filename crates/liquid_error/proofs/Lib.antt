pub mod Newest
pub mod Causes
pub mod Makers
