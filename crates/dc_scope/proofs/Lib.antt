pub mod Parameters
pub mod Lookups
pub mod Differing
pub mod Scoping
