pub mod Complete
pub mod Likeness
pub mod MemberTypes
pub mod PlainKinds
