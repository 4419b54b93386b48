pub mod LawLemmas
pub mod SaidLemmas
pub mod WordsLemmas
pub mod NumberLemmas
pub mod UsageLemmas
pub mod InputLemmas
