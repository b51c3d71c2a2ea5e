pub mod Growth
pub mod Rows
pub mod Jobs
