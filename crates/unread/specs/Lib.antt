pub mod Differs
pub mod Same
pub mod Edits
pub mod Demand3
pub mod Instance
