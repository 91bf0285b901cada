pub mod Lowering
pub mod Writable
