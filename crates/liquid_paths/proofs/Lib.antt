pub mod Values
pub mod Turns
pub mod Refusals
pub mod Agreement
