pub mod NamedFields
pub mod RefusedGrants
