pub mod Limits
pub mod Codes
pub mod Faults
pub mod Handle
pub mod Loans
pub mod Operation
pub mod Slot
