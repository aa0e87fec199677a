pub mod Runs
pub mod Next
pub mod Sheet
