pub mod Space
