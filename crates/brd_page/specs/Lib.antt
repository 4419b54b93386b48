pub mod Data
pub mod Events
pub mod Picture
pub mod Page
pub mod Recorder
