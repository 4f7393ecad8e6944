pub mod Disk
pub mod Looking
pub mod Told
pub mod Laws
