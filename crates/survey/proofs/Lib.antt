pub mod Asked
pub mod Stages
pub mod Formed
