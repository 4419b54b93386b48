pub mod Escapes
pub mod Picture
pub mod Ends
pub mod Names
pub mod Events
pub mod Bars
