pub mod Held
mod Shown
