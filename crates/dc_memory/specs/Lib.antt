pub mod Kinds
pub mod Conversions
pub mod Objects
pub mod Places
pub mod Encoding
pub mod Access
pub mod Context
