pub mod Continuations
pub mod Departures
pub mod Replays
pub mod Frames
pub mod Plans
