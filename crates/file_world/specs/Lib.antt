pub mod First
pub mod Worlds
pub mod IndexPageWorlds
