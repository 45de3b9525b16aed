pub mod Keeping
pub mod Reads
