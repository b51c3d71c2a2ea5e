pub mod Questions
pub mod Faults
pub mod File
pub mod Reading
pub mod View
pub mod Lines
