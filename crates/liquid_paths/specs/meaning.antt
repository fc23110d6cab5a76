pub mod Step
pub mod Walk
pub mod PathOf
pub mod InPlace
