pub mod Spots
pub mod Playing
