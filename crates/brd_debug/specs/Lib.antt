pub mod Marks
pub mod Touching
pub mod Stops
pub mod Watching
pub mod Kept
pub mod Debugger
