pub mod Rest
pub mod Slot
pub mod Event
