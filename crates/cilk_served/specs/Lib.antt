pub mod Folders
pub mod Forms
