pub mod TreeCodes
pub mod Codes
pub mod LiteralWalk
