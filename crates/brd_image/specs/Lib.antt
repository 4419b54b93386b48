pub mod Faults
pub mod Building
pub mod Headline
