pub mod Many
pub mod Heights
pub mod Lined
pub mod Judged
pub mod Placed
pub mod Looked
pub mod Assembled
pub mod Scanned
