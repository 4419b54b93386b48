mod PlaceLemmas
mod AscendingLemmas
pub mod NameLemmas
