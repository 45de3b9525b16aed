pub mod Checked
pub mod OtherRuns
pub mod Own
pub mod Programs
