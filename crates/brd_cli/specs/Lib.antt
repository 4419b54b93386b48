pub mod End
pub mod Laws
pub mod Program
pub mod Requests
pub mod Said
pub mod StandardInput
pub mod Usage
