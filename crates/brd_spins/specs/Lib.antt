pub mod Spins
pub mod Since
pub mod Text
