pub use Rattle.guest_memory.specs.Memory
pub mod Ring
pub mod Reached
pub mod Kind
pub mod Passing
