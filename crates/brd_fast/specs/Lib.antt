pub mod Place
pub mod Line
pub mod Known
pub mod Plans
pub mod Moves
pub mod Steps
