pub mod View
pub mod Step
pub mod Asking
pub mod Index
pub mod Linked
pub mod Creating
pub mod Over
