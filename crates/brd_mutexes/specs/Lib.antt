pub mod Lifting
pub mod Passes
