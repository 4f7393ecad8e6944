pub mod Config
pub mod Console
pub mod Device
pub mod Input
pub mod Output
