pub mod Accepted
pub mod CheckShowing
pub mod Checked
pub mod Helped
pub mod Moments
pub mod Showing
