pub mod Hexadecimal
