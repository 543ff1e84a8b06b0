use Rattle.std.proofs.Common.{◌≡◌, length, map}
use Rattle.advfs_program.specs.declared.images.Image.{Image}
use Rattle.advfs_program.proofs.images.Images.into_rack.Given as goal

-- the files and the pages of the images so far
abbrev pub invariant-loop-image : goal.invariant-loop-image
invariant-loop-image l = record {
  files : length l.files.items ≡ length l.yielded;
  sizes : l.sizes.items ≡ map (λ (image : Image). image.pages) l.yielded;
}
