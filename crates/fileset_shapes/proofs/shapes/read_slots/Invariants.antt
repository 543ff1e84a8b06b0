use Rattle.std.proofs.Common.{◌≡◌, ℕ, Option, Some, length, slice_get}
use Rattle.fileset_shapes.specs.Found.{SeesSlot}
use Rattle.fileset_shapes.specs.declared.found.FilesetSeen.{FilesetSeen}
use Rattle.fileset_shapes.proofs.shapes.read_slots.Given as goal

abbrev pub invariant-loop-n : goal.invariant-loop-n
invariant-loop-n g l = record {
  count : length l.found.items ≡ l.n;
  each : (number : ℕ) (seen : Option FilesetSeen) → slice_get l.found.items number ≡ Some seen → SeesSlot (g.M.MetaPages.pages l.pages) l.tables.filesets number seen;
}
