pub mod Burdened
pub mod Measured
pub mod Measures
pub mod Table
