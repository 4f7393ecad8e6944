pub mod Sets
pub mod Status
pub mod Features
pub mod Negotiation
pub mod History
