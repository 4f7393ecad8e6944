pub use Rattle.guest_memory.specs.Memory
pub use Rattle.chain.specs.Buffers
pub mod Descriptors
pub mod Walks
pub mod Tables
pub mod Lists
pub mod Outcomes
