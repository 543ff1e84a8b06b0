use Rattle.std.proofs.Common.{ℕ, ◌<◌}
use Rattle.slot_files.specs.page_ways.Frame.{frame_in}
use Rattle.image_loading.specs.Loaded.{HoldsDirectories}
use Rattle.image_loading.proofs.directories.directory_homes.Given as goal

abbrev pub invariant-loop-n : goal.invariant-loop-n
invariant-loop-n g l = (number : ℕ) → number < l.n → HoldsDirectories (g.M.MetaPages.pages l.pages) (frame_in l.frame) l.tables.filesets number l.found
