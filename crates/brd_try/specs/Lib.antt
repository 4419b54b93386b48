pub mod Config
pub mod Turns
pub mod Turning
pub mod Told
pub mod Tries
