pub mod Calls
pub mod CallsGiven
pub mod Passed
pub mod Rounds
