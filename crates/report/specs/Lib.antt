pub mod Memory
pub mod Reports
