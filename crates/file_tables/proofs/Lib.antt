pub mod Counted
pub mod First
pub mod Answered
