pub mod LanguageLemmas
pub mod PageLemmas
