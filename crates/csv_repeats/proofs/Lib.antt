pub mod Seen
pub mod Standings
pub mod Laws
pub mod Kept
pub mod Firsts
pub mod Going
