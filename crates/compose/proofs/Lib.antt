pub mod Writing
pub mod Messages
pub mod Passing
