pub mod Told
pub mod Lookups
pub mod Many
pub mod Leads
pub mod Made
