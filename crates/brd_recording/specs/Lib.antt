pub mod Lanes
pub mod Recording
pub mod Slices
