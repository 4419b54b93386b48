pub mod Blanks
pub mod Shares
