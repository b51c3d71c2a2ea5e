pub mod Joins
pub mod Moves
pub mod Leasts
pub mod Reversed
pub mod Laws
