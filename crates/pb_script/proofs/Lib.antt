pub mod DraftLemmas
pub mod FileLemmas
pub mod LineLemmas
pub mod StationLemmas
