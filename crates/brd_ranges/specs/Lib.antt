pub mod Ranges
pub mod Entries
