pub mod FirstFiles
pub mod Kept
pub mod IndexPageKept
