pub mod Ids
pub mod Parts
pub mod Judges
pub mod Appends
