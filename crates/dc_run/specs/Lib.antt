pub mod View
pub mod Act
pub mod Part
pub mod Entry
pub mod Report
