pub mod Agreement
pub mod ErasedLemmas
pub mod Hiding
pub mod PathSteps
pub mod Registries
pub mod BorrowedValues
pub mod Uneven
