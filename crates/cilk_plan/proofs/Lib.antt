pub mod Blocked
pub mod Columns
pub mod Departures
pub mod Having
pub mod Making
pub mod Naming
pub mod Telling
pub mod Whole
