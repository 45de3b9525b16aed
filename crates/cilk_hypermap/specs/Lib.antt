pub mod Hypermap
pub mod Ranges
pub mod Views
