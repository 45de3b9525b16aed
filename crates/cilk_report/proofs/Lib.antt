pub mod About
pub mod Batches
pub mod Measuring
pub mod Replies
pub mod Standard
