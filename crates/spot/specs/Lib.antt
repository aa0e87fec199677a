pub mod Spot
pub mod Claims
pub mod Edges
