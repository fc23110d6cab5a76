pub mod PartLemmas
pub mod FarthestLemmas
pub mod AlongLemmas
pub mod RuleLemmas
pub mod ValueLemmas
