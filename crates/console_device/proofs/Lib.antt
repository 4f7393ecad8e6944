pub mod Deciding
pub mod Notified
pub mod Receiving
pub mod Services
pub mod Transmitting
pub mod Pieces
