pub mod Fault
pub mod Input
pub mod Stacks
pub mod Word
