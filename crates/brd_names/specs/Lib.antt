pub mod Addresses
pub mod Lines
pub mod Races
pub mod Standings
pub mod Stretches
pub mod Waits
