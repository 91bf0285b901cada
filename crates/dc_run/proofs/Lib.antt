pub mod Places
pub mod Parts
pub mod Statements
pub mod Calls
pub mod Entries
pub mod Runs
pub mod Operated
