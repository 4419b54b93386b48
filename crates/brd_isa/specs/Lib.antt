pub mod Fields
pub mod Codes
pub mod Names
pub mod Registers
pub mod Table
pub mod Decoding
pub mod Shapes
pub mod Local
