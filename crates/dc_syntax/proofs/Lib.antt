pub mod Words
mod Examples
pub mod Base
pub mod Sound
pub mod Reached
pub mod Heads
pub mod Complete
pub mod CompleteExpressions
pub mod CompleteClauses
pub mod CompleteUnits
pub mod SoundUnits
pub mod Scopes
pub mod Declaring
pub mod InForce
pub mod Views
pub mod Numbered
pub mod Heights
