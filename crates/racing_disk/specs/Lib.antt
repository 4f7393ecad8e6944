pub mod Copying
pub mod Judging
pub mod Segments
pub mod Telling
pub mod Completing
pub mod Answering
pub mod Looking
