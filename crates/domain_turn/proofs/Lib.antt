pub mod Totals
pub mod Steps
pub mod Opening
pub mod Seats
pub mod Counting
pub mod Readying
