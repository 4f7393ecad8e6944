pub mod Config
pub mod Device
pub mod Frames
pub mod Header
pub mod Network
pub mod Receiving
pub mod Saved
pub mod Sending
