pub mod Faultless
pub mod Order
pub mod Segments
pub mod Accepted
pub mod Parts
pub mod Given
pub mod WholeCase
