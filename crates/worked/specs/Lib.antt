pub mod Worked
pub mod Outside
