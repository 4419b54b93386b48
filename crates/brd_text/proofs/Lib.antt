pub mod Numerals
pub mod LineLemmas
pub mod HexLemmas
pub mod Runs
pub mod FaultLemmas
pub mod TurnLemmas
pub mod Spelled
pub mod PieceLemmas
