pub mod Ages
pub mod Held
pub mod Lettered
pub mod Lined
pub mod Policies
