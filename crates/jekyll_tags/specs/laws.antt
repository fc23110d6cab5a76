pub mod Hidden
pub mod HighlightsHide
pub mod LinksHide
