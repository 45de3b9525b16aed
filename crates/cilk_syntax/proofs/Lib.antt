pub mod Lists
pub mod MarkLaws
pub mod Runs
pub mod Stopping
pub mod Unique
pub mod Words
