pub mod Moments
pub mod Errors
pub mod Digits
pub mod Names
pub mod DayText
pub mod ClockText
pub mod MomentText
