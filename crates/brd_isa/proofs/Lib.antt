pub mod WordLemmas
pub mod NameLemmas
pub mod NameRows
pub mod NameWriting
pub mod TableTheorem
pub mod RegisterLemmas
