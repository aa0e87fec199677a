pub mod Count
pub mod Lines
pub mod Tells
pub mod Repeating
pub mod Whole
