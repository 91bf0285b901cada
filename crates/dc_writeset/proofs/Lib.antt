pub mod Innermost
pub mod Within
