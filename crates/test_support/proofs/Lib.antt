pub mod MemoryFiles
mod NextRequest
mod Receiver
pub mod Recorded
pub mod WriteBacks
pub mod WriteBackTouches
