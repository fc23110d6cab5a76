pub mod FrontLemmas
pub mod ItemLemmas
pub mod Names
pub mod PageNames
pub mod PartialLemmas
pub mod RequestLemmas
pub mod WrapLemmas
mod Columns
mod Marks
mod Paths
mod Placed
mod Walk
