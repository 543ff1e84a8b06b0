pub mod RunLemmas
pub mod EditLemmas
mod PartLemmas
mod PutLemmas
