pub mod Card
pub mod Device
pub mod Image
pub mod List
pub mod Model
pub mod Saved
pub mod Terminal
pub mod Waiting
