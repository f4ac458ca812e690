pub mod Known
pub mod KnownEntities
pub mod KnownEnums
pub mod KnownNames
pub mod KnownRoles
pub mod KnownVariables
pub mod Steps
