pub mod Hiding
pub mod Named
pub mod TextHiding
pub mod text_tags
