pub mod CallsTold
pub mod ReplyTold
