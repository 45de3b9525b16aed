pub mod Creations
pub mod Frames
pub mod Same
pub mod Walks
