pub mod HeldLemmas
pub mod NoneLemmas
pub mod PathLemmas
pub mod WalkLemmas
