pub mod Text
pub mod Woven
pub mod Weaver
pub mod Replaying
