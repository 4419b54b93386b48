pub mod Data
pub mod Laws
