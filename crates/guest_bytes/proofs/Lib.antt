mod Lending
mod Loans
mod Lodging
mod Structs
mod Taking
pub mod Walking
