pub mod WayLemmas
pub mod AlikeLemmas
pub mod ReachLemmas
pub mod StepLemmas
pub mod WalkLemmas
pub mod LoopLemmas
pub mod RoundLemmas
pub mod AnswerLemmas
