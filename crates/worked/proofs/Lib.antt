pub mod Computed
pub mod Agreeing
