pub mod Calls
pub mod CallsHold
pub mod Numbers
