pub mod Outline
pub mod Pairs
pub mod Entries
pub mod Trees
