pub mod AgreeLemmas
pub mod EachLemmas
pub mod LazyLemmas
pub mod PageLemmas
pub mod RenderedLemmas
pub mod StoreLemmas
