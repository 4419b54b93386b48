pub mod NodeLemmas
pub mod LinkLemmas
pub mod RingLemmas
