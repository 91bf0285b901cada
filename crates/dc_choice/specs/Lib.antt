pub mod Chosen
pub mod Heard
pub mod Reading
pub mod Answer
