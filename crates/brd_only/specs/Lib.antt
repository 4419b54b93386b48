pub mod Only
pub mod Finding
