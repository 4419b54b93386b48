pub mod Concerns
pub mod Effects
pub mod Links
pub mod Telling
pub mod Words
