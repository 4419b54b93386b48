-- Who runs is ready.
pub mod ReadyLemmas
pub mod RunningLemmas
pub mod RunningCallLemmas
pub mod RunningMadeLemmas
