pub mod Kinds
pub mod Order
pub mod Bag
pub mod Reversed
pub mod Calls
pub mod Bags
pub mod Ordered
