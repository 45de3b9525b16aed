pub mod Others
pub mod Programs
pub mod Settings
pub mod Squared
