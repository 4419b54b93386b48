pub mod Turns
pub mod Settled
pub use Rattle.brd_explore.specs.Shrinking
