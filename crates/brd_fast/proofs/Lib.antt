pub mod PlanLemmas
pub mod StepLemmas
pub mod LineLemmas
pub mod KnownLemmas
pub mod GoneLemmas
