pub mod Answered
pub mod Command
pub mod Names
pub mod Requests
