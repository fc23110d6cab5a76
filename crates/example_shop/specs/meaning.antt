pub mod Badges
pub mod Filters
pub mod Languages
pub mod Pages
pub mod Shapes
pub mod Stocks
pub mod Twices
