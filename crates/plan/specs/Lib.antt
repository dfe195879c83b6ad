pub mod States
pub mod Calls
pub mod Sequences
pub mod Promises
pub mod Laws
pub mod WorkedCalls
pub mod Returns
pub mod Orders
