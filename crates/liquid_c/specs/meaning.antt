pub mod Jekyll
pub mod Languages
pub mod Moments
pub mod Options
pub mod Outcomes
pub mod Turns
