pub mod LiftingLemmas
pub mod PassLemmas
pub mod LiftedLemmas
