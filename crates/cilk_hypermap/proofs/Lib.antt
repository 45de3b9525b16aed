pub mod Absorbing
pub mod Fills
pub mod Entries
pub mod Merges
pub mod Writes
