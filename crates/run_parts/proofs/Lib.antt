pub mod Faults
pub mod Guarded
pub mod Pieces
pub mod Printed
pub mod Reading
pub mod Shuffled
pub mod WordLemmas
