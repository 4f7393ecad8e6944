pub mod Distance
pub mod EventPlace
pub mod Going
pub mod Numbers
pub mod Sets
