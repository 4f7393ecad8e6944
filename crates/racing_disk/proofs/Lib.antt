pub mod Copying
pub mod Judging
pub mod Standing
pub mod Telling
pub mod Answering
pub mod Looking
