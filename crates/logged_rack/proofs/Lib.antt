mod Forced
mod Idle
mod Marked
pub mod OfMetaLog
mod Places
mod Showing
mod Sound
