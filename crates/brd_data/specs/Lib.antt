pub mod Data
pub mod Faults
pub mod Laid
pub mod Object
pub mod Performing
pub mod Reading
