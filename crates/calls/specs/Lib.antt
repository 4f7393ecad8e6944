pub mod Replayed
pub mod LastLine
