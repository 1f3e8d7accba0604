pub mod LineLemmas
mod SpelledLemmas
