pub mod Range
pub mod Fault
pub mod Files
pub mod Brought
pub use Rattle.domain_faults.specs as domain_faults
pub use Rattle.image_loading.specs as image_loading
