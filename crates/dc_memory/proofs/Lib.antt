pub mod Puts
pub mod Objects
pub mod Spelt
pub mod Decoded
pub mod Written
