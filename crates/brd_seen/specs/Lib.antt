pub mod Conditions
pub mod Quiets
pub mod Seen
