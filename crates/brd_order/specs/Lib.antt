pub mod Order
pub mod Races
pub mod Clocks
pub mod Marks
pub mod Tables
pub mod After
pub mod Refusals
