pub mod Counts
pub mod Links
pub mod Lost
pub mod Names
pub mod Pages
pub mod Parents
pub mod Rows
pub mod Sizes
pub mod There
pub mod Wrong
pub mod Children
pub mod Few
pub mod Misplaced
pub mod Order
pub mod Slot
pub mod Tree
pub mod Walk
pub use Rattle.fileset_shapes.specs as fileset_shapes
