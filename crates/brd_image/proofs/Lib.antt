pub mod BuildingLemmas
pub mod FittingLemmas
