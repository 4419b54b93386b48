pub mod StateLemmas
pub mod TurnLemmas
pub mod LoopLemmas
pub mod WatchLemmas
pub mod ListLemmas
