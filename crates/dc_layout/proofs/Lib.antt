pub mod Arithmetic
pub mod Views
pub mod Walks
pub mod More
pub mod Entries
pub mod AllSizes
pub mod Offsets
pub mod Examples
