pub mod Orders
pub mod Reported
pub mod Arranged
pub mod Loads
