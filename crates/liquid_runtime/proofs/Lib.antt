pub mod MapLaws
pub mod ObjectNames
pub mod Objects
pub mod FrameLaws
pub mod FrameLookups
pub mod SetLaws
pub mod Agreement
pub mod LoopLaws
