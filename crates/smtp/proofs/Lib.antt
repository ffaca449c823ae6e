pub mod Alike
pub mod Held
pub mod Listing
pub mod Named
pub mod Parted
pub mod Reading
pub mod Spelled
pub mod Wire
