mod MarkLemmas
mod StopLemmas
mod TouchingLemmas
pub mod SearchLemmas
mod StillLemmas
mod PlayingLemmas
mod SpareLemmas
mod NotedLemmas
mod KeptLemmas
