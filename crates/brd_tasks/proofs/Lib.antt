pub mod Consistency
pub mod ThereLemmas
pub mod MadeLemmas
pub mod MarkLemmas
pub mod ReadyLemmas
pub mod MarkedLemmas
