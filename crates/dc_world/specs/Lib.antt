pub mod View
pub mod Told
pub mod Log
pub mod Sorts
pub mod Drawing
pub mod Sets
pub mod Report
pub mod Reported
