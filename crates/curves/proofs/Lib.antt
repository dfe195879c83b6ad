pub mod Periods
pub mod RowSegments
pub mod Rates
