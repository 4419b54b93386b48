pub mod QueueLemmas
pub mod RuleLemmas
pub mod PriorityLemmas
pub mod FindLemmas
pub mod StepLemmas
pub mod WantedLemmas
