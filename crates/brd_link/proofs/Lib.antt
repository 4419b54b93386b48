pub mod LinkLemmas
pub mod Pairs
pub mod LayoutLemmas
pub mod EqLemmas
