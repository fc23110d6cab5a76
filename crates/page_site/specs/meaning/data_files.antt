pub mod Document
pub mod Merged
pub mod Sheet
pub mod Tables
