pub mod TurningLemmas
pub mod TryLemmas
pub mod ToldLemmas
