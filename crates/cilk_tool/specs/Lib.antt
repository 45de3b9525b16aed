pub mod Endings
pub mod Helped
pub mod Serving
pub mod Shown
