pub mod Text
pub mod Input
pub mod Description
pub mod Job
pub mod Fault
