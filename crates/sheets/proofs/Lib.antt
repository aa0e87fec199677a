pub mod Telling
pub mod Judging
