pub mod Bits
pub mod Masks
pub mod Orders
pub mod Sets
pub mod Jumps
pub mod Parts
