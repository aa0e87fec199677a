pub mod Kept
pub mod Given
