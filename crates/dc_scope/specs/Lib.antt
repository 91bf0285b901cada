pub mod Entities
pub mod SameTypes
pub mod Scopes
pub mod Declaring
pub mod Codes
