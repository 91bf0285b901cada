pub mod Numbers
pub mod Changes
pub mod Drawing
pub mod Reported
