pub mod EscapeLemmas
pub mod PlanLemmas
pub mod StopLemmas
pub mod SummandLemmas
pub mod RegionLemmas
