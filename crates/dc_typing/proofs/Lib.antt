pub mod Loops
pub mod Arguments
pub mod Derivations
pub mod PlainLists
pub mod SpecLists
