pub mod Types
pub mod Layout
pub mod Sized
pub mod Kept
pub mod Members
