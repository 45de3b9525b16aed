pub mod Children
pub mod Going
pub mod Ran
pub mod Scoped
pub mod SoFar
pub mod States
