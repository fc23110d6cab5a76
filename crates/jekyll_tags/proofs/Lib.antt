pub mod PairLemmas
pub mod PartLemmas
pub mod PluginLemmas
pub mod FileLemmas
pub mod HighlightLemmas
pub mod LinkLemmas
