pub mod KnownLemmas
pub mod SpotLemmas
pub mod PlayLemmas
