pub mod Frames
pub mod Peers
pub mod RaceFree
pub mod ViewRaces
pub mod Walk
pub mod Worked
