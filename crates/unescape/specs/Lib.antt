pub mod Unescaped
