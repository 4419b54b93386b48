pub mod LinkSet
pub mod Layout
pub mod LayoutBack
