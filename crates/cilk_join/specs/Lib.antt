pub mod AwaitedRows
pub mod Rows
pub mod Products
pub mod Joins
pub mod Waits
pub mod Histories
pub mod Laws
