pub mod CheckEntered
pub mod Entered
pub mod Plain
pub mod Requests
pub mod ThreadsEntered
