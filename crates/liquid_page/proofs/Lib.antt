pub mod EngineLemmas
pub mod ListNames
pub mod NameLemmas
pub mod PageLemmas
