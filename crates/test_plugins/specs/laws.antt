pub mod TagLaws
pub mod BlockLaws
pub mod LeakLaw
