mod AlongSettled
mod AskedNumbers
mod Between
mod Found
mod Lasting
mod NumbersAlong
mod Places
mod Settled
mod Tabled
mod ViewsAlong
pub mod Alike
pub mod Cells
pub mod Columns
pub mod CourseLeft
pub mod Crossing
pub mod Leaving
pub mod Left
pub mod Opened
pub mod Popped
pub mod Sent
pub mod Strands
pub mod Whole
