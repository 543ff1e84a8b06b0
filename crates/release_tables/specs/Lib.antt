pub mod Beside
pub mod Called
pub mod Going
pub mod Pairs
pub mod Stood
pub mod Onward
