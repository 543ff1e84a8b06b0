pub mod Directory
pub mod TagPage
