pub mod LinksLemmas
pub mod PutLemmas
pub mod RanLemmas
pub mod TraceLemmas
pub mod WordsLemmas
