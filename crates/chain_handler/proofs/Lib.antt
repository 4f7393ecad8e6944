pub mod Still
pub mod Seeing
pub mod Rows
mod Copying
pub mod Doing
