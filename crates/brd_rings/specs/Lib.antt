pub mod Rings
pub mod Layout
