pub mod Dated
pub mod Noted
pub mod Recorded
