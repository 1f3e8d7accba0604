pub mod LawLemmas
pub mod ServeLemmas
pub mod TalkLemmas
