-- What is named above of the proofs of image_loading.
pub use Rattle.image_loading.proofs.PagesRead
