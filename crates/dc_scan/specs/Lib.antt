pub mod View
pub mod Assembling
pub mod Scanned
pub mod Judging
