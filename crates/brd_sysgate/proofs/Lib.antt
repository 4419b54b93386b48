pub mod AgainLemmas
pub mod TableLemmas
