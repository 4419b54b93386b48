pub mod Timers
pub mod Times
