pub mod Gate
pub use Rattle.brd_kernel.specs.Row
pub use Rattle.brd_kernel.specs.Services
