pub mod Names
pub mod Terms
pub mod Code
pub mod Lines
pub mod Whole
