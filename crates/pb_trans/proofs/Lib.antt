mod JudgingLemmas
mod WaitingLemmas
