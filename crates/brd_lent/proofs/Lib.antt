pub mod KnownLemmas
pub mod LentLemmas
pub mod PlanLemmas
pub mod WindowLemmas
