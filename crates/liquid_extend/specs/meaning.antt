pub mod OneOf
pub mod Plugins
pub mod Nodes
pub mod Sense
pub mod TextBlocks
pub mod TextNodes
pub mod Arguments
pub mod text_tags
