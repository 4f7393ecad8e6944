pub use Rattle.guest_memory.specs.Memory
pub mod Places
pub mod Split
pub mod Packed
pub mod Sets
