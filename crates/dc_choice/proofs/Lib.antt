pub mod Readings
pub mod Choosing
pub mod Hearing
