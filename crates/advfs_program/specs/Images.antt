-- Images that are open.
use Rattle.std.specs.Prelude.{ℕ, List, length, map}
use Rattle.advfs_program.specs.declared.images.Images.{Images}

-- how many there are
abbrev pub image_count : Images → ℕ
image_count images = length images.list.items

-- the whole pages of each
abbrev pub image_sizes : Images → List ℕ
image_sizes images = map (λ image. image.pages) images.list.items
