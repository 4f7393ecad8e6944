pub mod Answering
pub mod Cutting
pub mod Fitting
pub mod Receiving
pub mod Rooms
pub mod Rows
pub mod Saving
pub mod Transmitting
