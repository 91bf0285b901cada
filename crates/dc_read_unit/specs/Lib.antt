pub mod PartView
pub mod PartTaking
pub mod ClauseParts
pub mod InitParts
pub mod PartNests
pub mod StatementParts
pub mod ExternalParts
