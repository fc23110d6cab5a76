pub mod LooseLaws
pub mod StrictLaws
pub mod Steps
