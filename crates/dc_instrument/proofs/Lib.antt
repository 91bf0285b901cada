pub mod Emitting
pub mod Exact
pub mod Written
