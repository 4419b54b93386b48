pub mod Time
pub mod Kept
