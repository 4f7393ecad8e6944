pub mod Loaned
