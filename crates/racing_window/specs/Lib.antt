pub mod Queue
pub mod Layout
pub mod Lying
pub mod Serving
pub mod Place
pub mod Memory
pub mod Laws
pub mod Lasting
