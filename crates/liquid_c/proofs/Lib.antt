pub mod AskedLemmas
pub mod ChosenLemmas
pub mod JekyllLemmas
pub mod LeavesLemmas
pub mod MomentLemmas
pub mod TurnLemmas
