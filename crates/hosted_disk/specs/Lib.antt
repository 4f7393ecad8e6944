pub mod Disk
pub mod Told
