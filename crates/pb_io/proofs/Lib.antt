mod ChangeLogLemmas
pub mod CrashLemmas
pub mod DiskLemmas
mod MemSiteLemmas
pub mod Moments
pub mod PageLemmas
pub mod RunLemmas
pub mod SinkLemmas
pub mod SendLemmas
mod SourceLemmas
pub mod WorldLemmas
