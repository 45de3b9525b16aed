pub mod AskSlot
pub mod Cursor
pub mod Following
pub mod Leaving
pub mod Moving
pub mod Operands
pub mod Sight
