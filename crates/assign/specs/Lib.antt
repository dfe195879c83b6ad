pub mod Assignment
pub mod Laws
pub mod Search
pub mod Counts
