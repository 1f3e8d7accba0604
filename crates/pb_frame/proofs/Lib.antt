mod CutLemmas
mod FaultLemmas
pub mod FollowsLemmas
pub mod FrameLemmas
mod OutcomeLemmas
mod QuotedLemmas
mod ReadLemmas
mod RunLemmas
mod SignatureLemmas
mod SplitLemmas
mod TurnLemmas
