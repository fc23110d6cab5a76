pub mod GlobalLemmas
pub mod LimitedRuns
pub mod PageLemmas
pub mod PreparedLemmas
pub mod ShownLemmas
pub mod ShownSteps
pub mod UntouchedSinks
