pub mod Depths
pub mod Following
pub mod Laid
pub mod Points
pub mod Strands
pub mod Text
pub mod Tracks
