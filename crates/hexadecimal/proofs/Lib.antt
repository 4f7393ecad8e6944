pub mod Digits
pub mod Numbers
pub mod ByteFields
pub mod PairSteps
pub mod Judging
mod BytePairs
mod EightDigits
mod Table
