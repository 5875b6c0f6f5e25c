pub mod Checks
pub mod Auditing
pub mod Audits
pub mod Ids
pub mod Inspections
pub mod Collided
pub mod Commands
