pub mod Kinds
pub mod Lawful
pub mod Laws
pub mod Products
pub mod Ranges
pub mod Rings
pub mod Values
pub mod Views
