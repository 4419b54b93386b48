pub mod AccountsLemmas
pub mod ChangedLemmas
pub mod CircleLemmas
pub mod DeadlockLemmas
pub mod StepsLemmas
