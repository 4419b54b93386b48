pub mod Known
pub mod Plans
pub mod Most
pub mod Window
