pub mod Configuration
pub mod Faults
pub mod Reading
pub mod Statements
pub mod Meaning
pub mod View
pub mod Grammar
