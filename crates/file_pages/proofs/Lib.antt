mod Brought
mod LeastUsed
mod LentHomes
pub mod OfMetaLog
mod SameHomes
mod UseOrder
