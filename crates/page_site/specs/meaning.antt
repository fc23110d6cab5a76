pub mod Answers
pub mod Faults
pub mod Front
pub mod Items
pub mod Layouts
pub mod Partials
pub mod Requested
pub mod data_files
