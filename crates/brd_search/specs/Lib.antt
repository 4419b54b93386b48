pub mod Escapes
pub mod Plans
pub mod Searches
pub mod Shown
pub use Rattle.brd_explore.specs.Schedules
pub use Rattle.brd_explore.specs.Shards
