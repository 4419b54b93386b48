pub mod Owning
pub mod Footprint
pub mod Looking
pub mod Stepping
