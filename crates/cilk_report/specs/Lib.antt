pub mod Colors
pub mod Explained
pub mod Measured
pub mod Settling
pub mod Silence
