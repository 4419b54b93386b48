pub mod Reaching
pub mod Endless
pub mod Rounds
pub use Rattle.brd_explore.specs.Searching
pub use Rattle.brd_frames.specs.Reducing
