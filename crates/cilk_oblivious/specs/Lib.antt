pub mod Cursors
pub mod Every
pub mod Marks
pub mod Open
pub mod Pairs
pub mod Twins
pub mod Watching
pub mod Worked
