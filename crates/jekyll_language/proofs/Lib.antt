mod SandboxLemmas
pub mod WholeTagLemmas
