pub mod Lending
pub mod Calling
pub mod Serving
pub mod Owing
pub mod Moving
