pub mod BadgeLaws
pub mod StockLaws
