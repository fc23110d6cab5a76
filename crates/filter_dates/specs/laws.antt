pub mod Moments
pub mod Stamps
