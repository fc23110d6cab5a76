pub mod Leak
pub mod PartialLemmas
