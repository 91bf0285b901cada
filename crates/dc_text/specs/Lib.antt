pub mod Words
pub mod Reserved
pub mod Digits
pub mod Counted
