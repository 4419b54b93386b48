pub mod ExcerptLemmas
pub mod InputLemmas
pub mod OpeningLemmas
pub mod StartLemmas
