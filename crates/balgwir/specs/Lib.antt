pub mod Answers
pub mod Commands
pub mod Mail
pub mod Policies
pub mod SheetFaults
pub mod Shown
pub mod Words
