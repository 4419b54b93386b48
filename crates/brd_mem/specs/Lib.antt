pub mod Memory
pub mod Image
pub mod Access
pub mod Window
pub mod Pages
pub mod Marks
