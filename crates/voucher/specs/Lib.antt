pub mod Direct
pub mod Either
pub mod Laws
pub mod Policy
pub mod PolicyLines
pub mod PolicyRead
pub mod SignedList
pub mod Voucher
