pub mod Blocks
pub mod Charges
pub mod Trees
pub mod Lazy
pub mod Finding
pub mod Finds
