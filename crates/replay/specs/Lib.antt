pub mod Limits
pub mod LastLine
pub mod OneSlot
pub mod Telling
pub mod Replay
pub mod Asking
pub mod Running
