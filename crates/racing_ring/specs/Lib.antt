pub mod Source
pub mod Table
pub mod Walk
pub mod Split
pub mod Packed
pub mod Queue
pub mod Lying
