pub mod Firsts
pub mod Greatest
pub mod Pass
