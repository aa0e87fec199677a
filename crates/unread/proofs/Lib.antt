pub mod Differs
pub mod Segments
pub mod Fields
pub mod Components
pub mod Edits
pub mod Parts
pub mod Demand3
pub mod Instance
