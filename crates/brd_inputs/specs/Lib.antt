pub mod Excerpt
pub mod FileKinds
pub mod Faults
pub mod Input
pub mod Opening
pub mod Start
