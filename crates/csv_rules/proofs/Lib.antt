pub mod Quoting
pub mod Table
pub mod Pairs
pub mod Texts
pub mod GoesOn
pub mod Order
pub mod Behind
pub mod Raw
