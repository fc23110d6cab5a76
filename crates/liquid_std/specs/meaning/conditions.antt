pub mod Contained
pub mod Equality
pub mod Conditions
pub mod ConditionsGiven
pub mod Values
pub mod Branches
