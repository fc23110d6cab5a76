pub mod DateReader
pub mod PatternReader
