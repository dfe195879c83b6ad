pub mod Memory
pub mod Orders
