pub mod Looked
pub mod Repeats
pub mod Verdicts
pub mod Walk
