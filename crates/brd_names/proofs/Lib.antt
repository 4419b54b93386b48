pub mod AlikeLemmas
pub mod LoadedLemmas
pub mod ThereLemmas
