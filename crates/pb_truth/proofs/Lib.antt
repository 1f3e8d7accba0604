pub mod AskedLemmas
pub mod GrowthLemmas
pub mod HearingLemmas
pub mod KeepingLemmas
pub mod LearningLemmas
pub mod PairLemmas
pub mod StreamLemmas
pub mod TableLemmas
pub mod ViewLemmas
mod CountLemmas
pub mod BoundLemmas
pub mod AnswerLemmas
pub mod UndisturbedLemmas
pub mod WholeLemmas
pub mod WrittenLemmas
