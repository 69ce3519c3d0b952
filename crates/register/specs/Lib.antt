pub mod State
pub mod Numbers
pub mod Refusals
pub mod Causes
pub mod Replies
pub mod Answers
pub mod Shape
