mod AskLemmas
pub mod EventLemmas
pub mod JudgeLemmas
mod DueLemmas
pub mod ListenLemmas
pub mod PassLemmas
pub mod RunLemmas
pub mod StreamLemmas
